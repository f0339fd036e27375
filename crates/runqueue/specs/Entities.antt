-- Who stands at a processor: who runs, kept by itself, everybody by pid, and those who wait in their order (this
-- project's profile).
use Rattle.std.specs.Prelude.{◌≡◌, ◌≢◌, ℕ, ◌==◌, if◌then◌else◌, ◌↔◌, IsTrue, IsSome, Option, Some, None, option_map, ℤ}
use Rattle.std.specs.BTreeSet.{BTreeSet, contains}
use Rattle.std.specs.Ordering.{nat_cmp, int_cmp, ordering_then}
use Rattle.std.specs.declared.cmp.Ordering.{Ordering}
use Rattle.std.proofs.Props.{props}
use Rattle.cfs_model.specs.Machine.{put}
use Rattle.replay_model.specs.Part.{Entity}
use Rattle.cfs_model.specs.declared.task.Place.{Place}
use Rattle.cfs_model.specs.declared.task.Place.TheVariants.{Run, Wait}
use Rattle.runqueue.specs.declared.sched_entity.SchedEntity.{SchedEntity}
use Rattle.runqueue.specs.TaskRows.{TaskRows, task_in}
use Rattle.runqueue.specs.Tasks.{entity_of}
use Rattle.runqueue.specs.declared.waiting_task.WaitingTask.{WaitingTask}

-- one who waits, by its virtual runtime and its pid
abbrev pub waiting_task : ℤ → ℕ → WaitingTask
waiting_task v pid = record { v = v; pid = pid }

-- the order of those who wait: the lesser virtual runtime first, and of equal ones the lesser pid
abbrev pub by_runtime : WaitingTask → WaitingTask → Ordering
by_runtime x y = ordering_then (int_cmp x.v y.v) (nat_cmp x.pid y.pid)

-- what the rows have of a pid
abbrev pub listed : TaskRows → ℕ → Option Entity
listed tasks pid = option_map entity_of (task_in tasks pid)

-- who runs stands as it runs, everybody else as the rows have it
abbrev pub entities : Option SchedEntity → TaskRows → ℕ → Option Entity
entities None tasks = listed tasks
entities (Some t) tasks = put (listed tasks) t.pid (Some (entity_of t))

-- a task with this nice value, if it is that of the pid
abbrev pub reniced_task : ℕ → ℤ → SchedEntity → SchedEntity
reniced_task pid nice t = if t.pid == pid then record t { nice = nice } else t

-- the rows' task of a pid has this nice value, if there is one, and each other task is as it was
pub record HasNice (pid : ℕ) (nice : ℤ) (old new : TaskRows) : Type 0 where
  pub here : task_in new pid ≡ option_map (λ (t : SchedEntity). record t { nice = nice }) (task_in old pid)
  pub there : (other : ℕ) → other ≢ pid → task_in new other ≡ task_in old other

-- the virtual runtime of one who waits
abbrev pub runtime_if : Place → ℤ → Option ℤ
runtime_if Wait v = Some v
runtime_if _ v = None

abbrev pub waiting_runtime : Option Entity → Option ℤ
waiting_runtime None = None
waiting_runtime (Some s) = runtime_if s.place s.runtime

-- the set has those who wait, each at its virtual runtime, and nobody else
unfoldable pub IsWaitingSet : (ℕ → Option Entity) → BTreeSet WaitingTask → Type 0
IsWaitingSet tasks waiting = (v : ℤ) (pid : ℕ) → IsTrue (contains by_runtime waiting (waiting_task v pid))
    ↔ (waiting_runtime (tasks pid) ≡ Some v)

-- nobody runs but the runner
unfoldable pub IsOnlyRunner : (ℕ → Option Entity) → Option SchedEntity → Type 0
IsOnlyRunner tasks runner =
    (pid : ℕ) → option_map (λ s. s.place) (tasks pid) ≡ Some Run → option_map (λ t. t.pid) runner ≡ Some pid

-- the runner runs, and the rows have a task of its pid
unfoldable pub IsRunnerListed : Option SchedEntity → TaskRows → Type 0
IsRunnerListed runner tasks = (t : SchedEntity) → runner ≡ Some t → (t.place ≡ Run) × IsSome (task_in tasks t.pid)

-- rows, set and runner tell of the same tasks
unfoldable pub IsQueue : Option SchedEntity → TaskRows → BTreeSet WaitingTask → Type 0
IsQueue runner tasks waiting =
    IsWaitingSet (entities runner tasks) waiting × IsOnlyRunner (entities runner tasks) runner
    × IsRunnerListed runner tasks

pub IsQueue-prop : (runner : Option SchedEntity) (tasks : TaskRows) (waiting : BTreeSet WaitingTask)
    → IsProp (IsQueue runner tasks waiting)
unfolding IsQueue IsWaitingSet IsOnlyRunner IsRunnerListed
IsQueue-prop runner tasks waiting = Prim.hlevel props
