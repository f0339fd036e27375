-- A runqueue, as the part of a machine at its processor (this project's profile).
use Rattle.std.specs.Prelude.{◌≡◌, ◌≢◌, ℕ, Option, Some, None, option_map, ℤ}
use Rattle.std.specs.BTreeSet.{contains}
use Rattle.replay_model.specs.Needs.{IsLeastWaiting}
use Rattle.replay_model.specs.Part.{Part, Entity, IsIn, NobodyIn, IsQueuedHere, IsLeastHere}
use Rattle.replay_model.specs.QueueTests.{IsOutOfRange, IsWrongCharge}
use Rattle.cfs_model.specs.declared.charge_line.ChargeLine.{ChargeLine}
use Rattle.cfs_model.specs.declared.task.Place.TheVariants.{Run, Wait}
use Rattle.runqueue.specs.declared.sched_entity.SchedEntity.{SchedEntity}
use Rattle.runqueue.specs.Entities.{HasNice, entities, by_runtime, waiting_task}
use Rattle.runqueue.specs.TaskRows.{task_in}
use Rattle.runqueue.specs.Tasks.{entity_of}
use Rattle.runqueue.specs.declared.charging.ChargeFault.{ChargeFault}
use Rattle.runqueue.specs.declared.charging.ChargeFault.TheVariants.{Range, Told}
use Rattle.runqueue.specs.declared.lift.Unlifted.{Unlifted}
use Rattle.runqueue.specs.declared.runqueue.Runqueue.{Runqueue}

-- the part of a machine that the runqueue stands for
abbrev pub runqueue_view : Runqueue → Part
runqueue_view queue = record { tasks = entities queue.runner queue.tasks; floor = queue.floor; mark = queue.mark }

-- the rows and the set of a runqueue are as they were
pub record HoldsSame (old new : Runqueue) : Type 0 where
  pub pids : new.tasks.pids ≡ old.tasks.pids
  pub tasks : (pid : ℕ) → task_in new.tasks pid ≡ task_in old.tasks pid
  pub waiting : (v : ℤ) (pid : ℕ)
      → contains by_runtime new.waiting (waiting_task v pid) ≡ contains by_runtime old.waiting (waiting_task v pid)

-- what a charge and its lift change of a runqueue, as it stands
pub record IsUnlifted (queue : Runqueue) (before : Unlifted) : Type 0 where
  pub runner : before.runner ≡ queue.runner
  pub runner_row : before.runner_row ≡ queue.runner_row
  pub floor : before.floor ≡ queue.floor
  pub mark : before.mark ≡ queue.mark

-- the nice value that the rows have of a pid
abbrev pub nice_listed : Runqueue → ℕ → Option ℤ
nice_listed queue pid = option_map (λ (t : SchedEntity). t.nice) (task_in queue.tasks pid)

-- the rows have this nice value of a pid, if they have a task of it; each other task and the set are as they were
pub record IsReniced (pid : ℕ) (nice : ℤ) (old new : Runqueue) : Type 0 where
  pub pids : new.tasks.pids ≡ old.tasks.pids
  pub listed : HasNice pid nice old.tasks new.tasks
  pub waiting : new.waiting ≡ old.waiting

-- the one who runs here, if somebody does
abbrev pub IsTheRunner : Part → Option SchedEntity → Type 0
IsTheRunner part None = NobodyIn part Run
IsTheRunner part (Some t) =
    (part.tasks t.pid ≡ Some (entity_of t)) × (t.place ≡ Run) × ((pid : ℕ) → IsIn part Run pid → pid ≡ t.pid)

-- the least virtual runtime of those who wait here; none where nobody does
abbrev pub IsLeastIfWaiting : Part → Option ℤ → Type 0
IsLeastIfWaiting part None = NobodyIn part Wait
IsLeastIfWaiting part (Some v) = IsLeastWaiting part v

-- the least virtual runtime of those who run or wait here; none where nobody does
abbrev pub IsLeastQueued : Part → Option ℤ → Type 0
IsLeastQueued part None = (pid : ℕ) (s : Entity) → part.tasks pid ≡ Some s → ¬ IsQueuedHere s
IsLeastQueued part (Some v) = IsLeastHere part v

-- the task of a pid, if it stands here
abbrev pub IsTaskAt : Part → ℕ → Option SchedEntity → Type 0
IsTaskAt part pid task = option_map entity_of task ≡ part.tasks pid

-- the task of a pid that a switch names, if it stands here; pid 0 is no task
abbrev pub IsSwitchTask : Part → ℕ → Option SchedEntity → Type 0
IsSwitchTask part pid task = pid ≢ 0 → IsTaskAt part pid task

-- what is wrong with a charge: the exact one, or that which is told in its place
abbrev pub IsChargeFault : ℕ → Part → ℕ → Option ChargeLine → ChargeFault → Type 0
IsChargeFault bound part time charge (Range pid) = IsOutOfRange part time pid
IsChargeFault bound part time charge (Told pid) =
    ((other : ℕ) → ¬ IsOutOfRange part time other) × IsWrongCharge bound part time charge pid
