-- What can be wrong with a step at one processor: its time, its charge, who runs, and who stands where (this project's
-- profile). Each condition says of which pid it holds.
use Rattle.std.specs.Prelude.{◌≡◌, ◌≢◌, ℕ, zero, suc, ◌+◌, ◌<◌, Option, Some, None, IsSome, ℤ, pos, ◌+ℤ◌, ◌<ℤ◌}
use Rattle.std.specs.Prelude.{◌≤ℤ◌, ◌⊎◌}
use Rattle.cfs_model.specs.Charge.{greatest}
use Rattle.replay_model.specs.Part.{Part, Entity, IsIn, NobodyIn, cost_in}
use Rattle.cfs_model.specs.Told.{drift_after, IsWithin}
use Rattle.cfs_model.specs.declared.charge_line.ChargeLine.{ChargeLine}
use Rattle.cfs_model.specs.declared.nice_line.NiceLine.{NiceLine}
use Rattle.cfs_model.specs.declared.task.Place.TheVariants.{Run}
use Rattle.replay_model.specs.declared.step.Deed.{Deed}
use Rattle.replay_model.specs.declared.step.Deed.TheVariants.{Switch, Wake, Born, Leave, Arrive}

-- the processor has idled beside a waiting task for longer than the slack; no task is named
abbrev pub IsIdleTooLong : ℕ → Option ℕ → ℕ → ℕ → Type 0
IsIdleTooLong slack None time pid = ⊥
IsIdleTooLong slack (Some since) time pid = (since + slack < time) × (pid ≡ 0)

-- the charge of the pid that runs, or its virtual runtime after it, is above the greatest
pub record IsOutOfRange (part : Part) (time pid : ℕ) : Type 0 where
  pub task : Entity
  pub stands : part.tasks pid ≡ Some task
  pub runs : task.place ≡ Run
  pub above : (greatest < cost_in part time task) ⊎ (pos greatest <ℤ (task.runtime +ℤ pos (cost_in part time task)))

-- a told charge is of the task that runs here, doesn't lower its virtual runtime, and leaves its drift within the bound
pub record IsToldHere (bound : ℕ) (part : Part) (time : ℕ) (charge : ChargeLine) : Type 0 where
  pub task : Entity
  pub stands : part.tasks charge.pid ≡ Some task
  pub runs : task.place ≡ Run
  pub rises : task.runtime ≤ℤ charge.v
  pub within : IsWithin bound (drift_after task.drift charge.v (task.runtime +ℤ pos (cost_in part time task)))

-- a told charge that isn't so: it is the charge's pid
abbrev pub IsWrongCharge : ℕ → Part → ℕ → Option ChargeLine → ℕ → Type 0
IsWrongCharge bound part time None pid = ⊥
IsWrongCharge bound part time (Some charge) pid = (¬ IsToldHere bound part time charge) × (pid ≡ charge.pid)

-- a change of the nice value of a pid that doesn't stand here
abbrev pub IsStrangeNice : Part → Option NiceLine → ℕ → Type 0
IsStrangeNice part None pid = ⊥
IsStrangeNice part (Some change) pid = (part.tasks change.pid ≡ None) × (pid ≡ change.pid)

-- a task goes to the processor where it is
abbrev pub IsMoveHome : ℕ → Deed → ℕ → Type 0
IsMoveHome cpu (Leave task nice dest) pid = (dest ≡ cpu) × (pid ≡ task)
IsMoveHome cpu _ pid = ⊥

-- a switch from a task to itself
abbrev pub IsSelfSwitch : Deed → ℕ → Type 0
IsSelfSwitch (Switch prev prev_nice way next next_nice) pid = (prev ≡ next) × (pid ≡ prev)
IsSelfSwitch _ pid = ⊥

-- the pid is what runs here; pid 0 where nobody does
abbrev pub IsRunner : Part → ℕ → Type 0
IsRunner part zero = NobodyIn part Run
IsRunner part (suc n) = IsIn part Run (suc n)

-- the previous task of a switch isn't what runs here
abbrev pub IsPrevNotRunning : Part → Deed → ℕ → Type 0
IsPrevNotRunning part (Switch prev prev_nice way next next_nice) pid = (¬ IsRunner part prev) × (pid ≡ prev)
IsPrevNotRunning part _ pid = ⊥

-- a wakeup or a leave of a pid that doesn't stand here
abbrev pub IsStrange : Part → Deed → ℕ → Type 0
IsStrange part (Wake task nice) pid = (part.tasks task ≡ None) × (pid ≡ task)
IsStrange part (Leave task nice dest) pid = (part.tasks task ≡ None) × (pid ≡ task)
IsStrange part _ pid = ⊥

-- a birth or an arrival of a pid that stands here
abbrev pub IsAlready : Part → Deed → ℕ → Type 0
IsAlready part (Born task nice policy) pid = IsSome (part.tasks task) × (pid ≡ task)
IsAlready part (Arrive task nice orig policy) pid = IsSome (part.tasks task) × (pid ≡ task)
IsAlready part _ pid = ⊥

-- a leave of the task that runs here
abbrev pub IsMoveRunning : Part → Deed → ℕ → Type 0
IsMoveRunning part (Leave task nice dest) pid = IsIn part Run task × (pid ≡ task)
IsMoveRunning part _ pid = ⊥

-- the pid stands here with another nice value than the printed one
pub record HasOtherNice (part : Part) (pid : ℕ) (nice : ℤ) : Type 0 where
  pub task : Entity
  pub stands : part.tasks pid ≡ Some task
  pub other : task.nice ≢ nice

-- the same at a switch, where that of pid 0 isn't looked at
abbrev pub HasOtherPrio : Part → ℕ → ℤ → Type 0
HasOtherPrio part zero nice = ⊥
HasOtherPrio part (suc n) nice = HasOtherNice part (suc n) nice

-- a task that the step names stands here with another nice value; of a switch's two the previous one first
abbrev pub IsWrongPrio : Part → Deed → ℕ → Type 0
IsWrongPrio part (Switch prev prev_nice way next next_nice) pid =
    (HasOtherPrio part prev prev_nice × (pid ≡ prev))
    ⊎ ((¬ HasOtherPrio part prev prev_nice) × HasOtherPrio part next next_nice × (pid ≡ next))
IsWrongPrio part (Wake task nice) pid = HasOtherNice part task nice × (pid ≡ task)
IsWrongPrio part (Leave task nice dest) pid = HasOtherNice part task nice × (pid ≡ task)
IsWrongPrio part _ pid = ⊥
