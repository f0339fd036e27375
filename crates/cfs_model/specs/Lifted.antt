-- The machine that an event's time and the charge told on its line lead to, before a nice value changes and before the
-- event's own change: at each touched processor the running task is charged, exactly or as told, and then the floor is
-- raised. Sources: sched-design-CFS.rst, "The rbtree" (the time that a task just ran is added to its virtual runtime;
-- min_vruntime is monotonic and tracks the smallest virtual runtime of the runqueue); sched-nice-design.rst (a nice
-- value is a share, here a weight). That only events charge, the weight of the idle policy and the rounding are this
-- project's profile.
use Rattle.std.specs.Prelude.{◌≡◌, ℕ, ◌-◌, ◌≤◌, if◌then◌else◌, Option, Some, None, option_map, option_and_then, ℤ}
use Rattle.std.specs.Prelude.{pos}
use Rattle.std.specs.Prelude.{◌+ℤ◌, ◌≤ℤ◌, ◌⊎◌, List, [], ◌∷◌}
use Rattle.std.specs.Int.{int_max}
use Rattle.cfs_model.specs.Charge.{charge_of}
use Rattle.cfs_model.specs.Limits.{greatest_runtime}
use Rattle.cfs_model.specs.Nice.{task_weight}
use Rattle.cfs_model.specs.Machine.{Machine, Stands, IsQueued, put, with_floor}
use Rattle.cfs_model.specs.Told.{ChargesAs}
use Rattle.cfs_model.specs.declared.charge_line.ChargeLine.{ChargeLine}
use Rattle.cfs_model.specs.declared.task.Place.TheVariants.{Run}
use Rattle.cfs_model.specs.declared.policy.Policy.{Policy}

-- what a task of this nice value and policy is charged at this processor and time, in virtual nanoseconds: for the time
-- since the processor's mark
abbrev pub cost_at : Machine → ℕ → ℕ → ℤ → Policy → ℕ
cost_at m cpu time nice policy = charge_of (time - m.mark cpu) (task_weight nice policy)

-- the virtual runtime of a task that is charged
abbrev pub charged_runtime : Machine → ℕ → ℕ → ℕ → Option ℤ
charged_runtime m cpu time pid =
    option_and_then (λ nice. option_map (λ v. v +ℤ pos (cost_at m cpu time nice (m.policy pid))) (m.runtime pid))
    (m.nice pid)

-- who runs at the processor is charged exactly, and its mark is the time
abbrev pub charged : Machine → ℕ → ℕ → Machine
charged m cpu time = record m {
  runtime = λ pid. if m.running cpu pid then charged_runtime m cpu time pid else m.runtime pid;
  mark = put m.mark cpu time;
}

-- neither the charge of who runs at the processor nor the virtual runtime after it is above the greatest
abbrev pub CanCharge : Machine → ℕ → ℕ → Type 0
CanCharge m cpu time =
    (pid : ℕ) (nice v : ℤ) → Stands m Run cpu pid → m.nice pid ≡ Some nice → m.runtime pid ≡ Some v
    → (cost_at m cpu time nice (m.policy pid) ≤ greatest_runtime)
    × ((v +ℤ pos (cost_at m cpu time nice (m.policy pid))) ≤ℤ pos greatest_runtime)

-- v is the least virtual runtime of those who run or wait at the processor
pub record IsLeast (m : Machine) (cpu : ℕ) (v : ℤ) : Type 0 where
  pub pid : ℕ
  pub queued : IsQueued m cpu pid
  pub runtime : m.runtime pid ≡ Some v
  pub least : (other : ℕ) (w : ℤ) → IsQueued m cpu other → m.runtime other ≡ Some w → v ≤ℤ w

-- the floor stays where nobody runs or waits at the processor; else it is raised to the least virtual runtime there,
-- and never lowered
abbrev pub IsRaised : Machine → ℕ → ℤ → Type 0
IsRaised m cpu floor =
    (((pid : ℕ) → ¬ IsQueued m cpu pid) × (floor ≡ m.floor cpu))
    ⊎ ((v : ℤ) × IsLeast m cpu v × (floor ≡ int_max (m.floor cpu) v))

-- after is before with one processor charged, exactly or as told, and then its floor raised
pub record IsLiftedAt (bound time : ℕ) (charge : Option ChargeLine) (cpu : ℕ) (before after : Machine) : Type 0 where
  pub can_charge : CanCharge before cpu time
  pub told : Machine
  pub charges : ChargesAs bound charge cpu before (charged before cpu time) told
  pub floor : ℤ
  pub raised : IsRaised told cpu floor
  pub result : after ≡ with_floor told cpu floor

-- after is before with each of these processors charged and its floor raised, in turn; a told charge is at the first of
-- them, where the event happens
abbrev pub IsLifted : ℕ → ℕ → Option ChargeLine → List ℕ → Machine → Machine → Type 0
IsLifted bound time charge [] before after = after ≡ before
IsLifted bound time charge (cpu ∷ cpus) before after =
    (between : Machine) × IsLiftedAt bound time charge cpu before between × IsLifted bound time None cpus between after
