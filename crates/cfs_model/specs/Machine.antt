-- The state of the whole machine, and the words for what is changed in one. Sources: sched-design-CFS.rst, "Few
-- implementation details" (a task's virtual runtime) and "The rbtree" (a runqueue's min_vruntime, here its floor);
-- sched-nice-design.rst (nice values). The three places, the marks and that a policy is kept for life are this
-- project's profile.
use Rattle.std.specs.Prelude.{◌≡◌, ℕ, ◌==◌, Bool, true, false, if◌then◌else◌, IsTrue, Option, Some, None, ℤ, ◌⊎◌}
use Rattle.cfs_model.specs.Charge.{IsInRange}
use Rattle.cfs_model.specs.declared.task.Place.{Place}
use Rattle.cfs_model.specs.declared.task.Place.TheVariants.{Run, Wait, Rest}
use Rattle.cfs_model.specs.declared.policy.Policy.{Policy}

-- a set of pairs of a processor and a pid
abbrev pub Pairs : Type 0
Pairs = ℕ → ℕ → Bool

pub record Machine : Type 0 where
  -- who runs, who waits in the runqueue and who rests, and at which processor
  pub running : Pairs
  pub waiting : Pairs
  pub resting : Pairs
  -- the virtual runtime (vruntime) of each task, in virtual nanoseconds
  pub runtime : ℕ → Option ℤ
  -- the nice value of each task
  pub nice : ℕ → Option ℤ
  -- the policy of each task, as told at the start or at its birth; of a pid without a task it says nothing
  pub policy : ℕ → Policy
  -- by how much the told charges of each task stray in sum from exact ones since it came to its processor, in virtual
  -- nanoseconds; of a pid without a task it says nothing
  pub drift : ℕ → ℤ
  -- the floor of each processor's runqueue (its min_vruntime), in virtual nanoseconds
  pub floor : ℕ → ℤ
  -- the mark: the time of the last charge at each processor (its running task's exec_start), in nanoseconds
  pub mark : ℕ → ℕ

-- the set of those in a place
abbrev pub pairs_of : Machine → Place → Pairs
pairs_of m Run = m.running
pairs_of m Wait = m.waiting
pairs_of m Rest = m.resting

-- the pid is in this place at this processor
abbrev pub Stands : Machine → Place → ℕ → ℕ → Type 0
Stands m place cpu pid = IsTrue (pairs_of m place cpu pid)

-- nobody is in this place at this processor
abbrev pub NobodyStands : Machine → Place → ℕ → Type 0
NobodyStands m place cpu = (pid : ℕ) → ¬ Stands m place cpu pid

-- the pid runs or waits at this processor
abbrev pub IsQueued : Machine → ℕ → ℕ → Type 0
IsQueued m cpu pid = Stands m Run cpu pid ⊎ Stands m Wait cpu pid

-- every virtual runtime and every floor is in range
pub record AreValuesInRange (m : Machine) : Type 0 where
  pub runtimes : (pid : ℕ) (v : ℤ) → m.runtime pid ≡ Some v → IsInRange v
  pub floors : (cpu : ℕ) → IsInRange (m.floor cpu)

-- a map with another value at one key
unfoldable pub put : {A : Type 0} → (ℕ → A) → ℕ → A → ℕ → A
put map key value other = if other == key then value else map other

-- a set with one pair taken in or out
unfoldable pub put_pair : Pairs → ℕ → ℕ → Bool → Pairs
put_pair pairs cpu pid is_in = put pairs cpu (put (pairs cpu) pid is_in)

-- another set of those in a place
abbrev pub with_pairs : Machine → Place → Pairs → Machine
with_pairs m Run pairs = record m { running = pairs }
with_pairs m Wait pairs = record m { waiting = pairs }
with_pairs m Rest pairs = record m { resting = pairs }

-- the pid joins a place at a processor
abbrev pub with_task : Machine → Place → ℕ → ℕ → Machine
with_task m place cpu pid = with_pairs m place (put_pair (pairs_of m place) cpu pid true)

-- the pid leaves a place at a processor
abbrev pub without_task : Machine → Place → ℕ → ℕ → Machine
without_task m place cpu pid = with_pairs m place (put_pair (pairs_of m place) cpu pid false)

-- the pid goes from a place at a processor to a place at a processor
abbrev pub with_move : Machine → ℕ → Place → ℕ → Place → ℕ → Machine
with_move m pid from orig to dest = with_task (without_task m from orig pid) to dest pid

-- the pid has this virtual runtime
abbrev pub with_runtime : Machine → ℕ → ℤ → Machine
with_runtime m pid v = record m { runtime = put m.runtime pid (Some v) }

-- the pid has this nice value
abbrev pub with_nice : Machine → ℕ → ℤ → Machine
with_nice m pid nice = record m { nice = put m.nice pid (Some nice) }

-- the pid has this drift
abbrev pub with_drift : Machine → ℕ → ℤ → Machine
with_drift m pid drift = record m { drift = put m.drift pid drift }

-- the pid is of this policy
abbrev pub with_policy : Machine → ℕ → Policy → Machine
with_policy m pid policy = record m { policy = put m.policy pid policy }

-- the pid has neither a virtual runtime nor a nice value
abbrev pub without_values : Machine → ℕ → Machine
without_values m pid = record m { runtime = put m.runtime pid None; nice = put m.nice pid None }

-- the processor has this floor
abbrev pub with_floor : Machine → ℕ → ℤ → Machine
with_floor m cpu floor = record m { floor = put m.floor cpu floor }
