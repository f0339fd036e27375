-- A task that stands at a processor, and its charge (this project's profile).
use Rattle.std.specs.Prelude.{◌≡◌, ℕ, ◌<◌, ◌≤◌, Option, Some, None, option_map, ⊤, ℤ, pos, ◌+ℤ◌, ◌≤ℤ◌, List}
use Rattle.std.specs.List.{AllPairs}
use Rattle.cfs_model.specs.Charge.{charge_of, greatest}
use Rattle.cfs_model.specs.Nice.{task_weight}
use Rattle.cfs_model.specs.Told.{drift_after, IsWithin}
use Rattle.replay_model.specs.Part.{Entity}
use Rattle.cfs_model.specs.declared.charge_line.ChargeLine.{ChargeLine}
use Rattle.cfs_model.specs.declared.task.Task.{Task}
use Rattle.runqueue.specs.declared.charging.ChargeFault.{ChargeFault}
use Rattle.runqueue.specs.declared.charging.ChargeFault.TheVariants.{Range, Told}
use Rattle.runqueue.specs.declared.sched_entity.SchedEntity.{SchedEntity}

-- what a task is charged for this many nanoseconds, in virtual nanoseconds
abbrev pub cost_of : ℕ → SchedEntity → ℕ
cost_of delta t = charge_of delta (task_weight t.nice t.policy)

-- neither the task's charge nor its virtual runtime after it is above the greatest
abbrev pub CanBeCharged : ℕ → SchedEntity → Type 0
CanBeCharged delta t = (cost_of delta t ≤ greatest) × ((t.v +ℤ pos (cost_of delta t)) ≤ℤ pos greatest)

-- the task after the exact charge
abbrev pub charged_task : ℕ → SchedEntity → SchedEntity
charged_task delta t = record t { v = t.v +ℤ pos (cost_of delta t) }

-- what is told of a charge is of this task, where it is so when charged exactly, doesn't lower its virtual runtime, and
-- leaves its drift within the bound
pub record CanBeTold (bound : ℕ) (charge : ChargeLine) (own : ℤ) (exact : SchedEntity) : Type 0 where
  pub pid : charge.pid ≡ exact.pid
  pub rises : own ≤ℤ charge.v
  pub within : IsWithin bound (drift_after exact.drift charge.v exact.v)

-- the task as it is told, from what it is when charged exactly
abbrev pub told_task : ChargeLine → SchedEntity → SchedEntity
told_task charge exact = record exact { v = charge.v; drift = drift_after exact.drift charge.v exact.v }

-- what is told of a charge can be told, if anything is
abbrev pub CanBeChargedAs : ℕ → Option ChargeLine → ℤ → SchedEntity → Type 0
CanBeChargedAs bound None own exact = ⊤
CanBeChargedAs bound (Some charge) own exact = CanBeTold bound charge own exact

-- the task after the charge that is told, if one is, and else after the exact one
abbrev pub charged_as : Option ChargeLine → SchedEntity → SchedEntity
charged_as None exact = exact
charged_as (Some charge) exact = told_task charge exact

-- what is wrong with a task's charge: the exact one, or that which is told in its place
abbrev pub IsChargeFaultOf : ℕ → ℕ → Option ChargeLine → SchedEntity → ChargeFault → Type 0
IsChargeFaultOf bound delta charge t (Range pid) = (pid ≡ t.pid) × (¬ CanBeCharged delta t)
IsChargeFaultOf bound delta charge t (Told pid) =
    CanBeCharged delta t × (¬ CanBeChargedAs bound charge t.v (charged_task delta t))
    × (option_map (λ line. line.pid) charge ≡ Some pid)

-- a task as a part of a machine has it
abbrev pub entity_of : SchedEntity → Entity
entity_of t = record { place = t.place; nice = t.nice; policy = t.policy; runtime = t.v; drift = t.drift }

-- a task that comes to a processor, or that the start names there: it has no drift
abbrev pub sched_entity_of : Task → SchedEntity
sched_entity_of t = record { pid = t.pid; nice = t.nice; policy = t.policy; place = t.place; v = t.v; drift = pos 0 }

-- the same as a part of a machine has it
abbrev pub entity_from : Task → Entity
entity_from t = entity_of (sched_entity_of t)

-- the pids rise
abbrev pub RisesByPid : List Task → Type 0
RisesByPid tasks = AllPairs (λ t u. t.pid < u.pid) tasks
