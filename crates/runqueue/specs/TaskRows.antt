-- The tasks of a processor in rows by pid, in the order in which they first stood there: a row stays when its task goes
-- (this project's profile).
use Rattle.std.specs.Prelude.{◌≡◌, ◌≢◌, ℕ, Option, Some, None, List, [], ◌∷◌, ◌++◌, slice_get}
use Rattle.std.proofs.Props.{props}
use Rattle.pid_table.specs.Rows.{Rows, index_in}
use Rattle.runqueue.specs.declared.sched_entity.SchedEntity.{SchedEntity}

abbrev pub TaskRows : Type 0
TaskRows = Rows (Option SchedEntity)

-- the task of a row, if there is a row and its task hasn't gone
abbrev pub task_of_row : Option (Option SchedEntity) → Option SchedEntity
task_of_row None = None
task_of_row (Some task) = task

abbrev pub task_at_index : List (Option SchedEntity) → Option ℕ → Option SchedEntity
task_at_index rows None = None
task_at_index rows (Some index) = task_of_row (slice_get rows index)

-- the task that the rows have of a pid
unfoldable pub task_in : TaskRows → ℕ → Option SchedEntity
task_in table pid = task_at_index table.rows (index_in table.pids pid)

-- the rows have this task of a pid, and of each other what they had
pub record Writes (old new : TaskRows) (pid : ℕ) (task : Option SchedEntity) : Type 0 where
  pub here : task_in new pid ≡ task
  pub there : (other : ℕ) → other ≢ pid → task_in new other ≡ task_in old other

-- the pids that have a row once this one has, by where it had one: where it had none it stands behind the last
abbrev pub with_pid_at : Option ℕ → ℕ → List ℕ → List ℕ
with_pid_at None pid pids = pids ++ pid ∷ []
with_pid_at (Some row) pid pids = pids

abbrev pub with_pid : ℕ → List ℕ → List ℕ
with_pid pid pids = with_pid_at (index_in pids pid) pid pids

-- each pid that has a row has it where it was
unfoldable pub KeepsRows : List ℕ → List ℕ → Type 0
KeepsRows old new = (pid row : ℕ) → index_in old pid ≡ Some row → index_in new pid ≡ Some row

-- the runner's row is at this index
unfoldable pub IsRunnerRow : Option SchedEntity → List ℕ → ℕ → Type 0
IsRunnerRow runner pids row = (t : SchedEntity) → runner ≡ Some t → index_in pids t.pid ≡ Some row

pub IsRunnerRow-prop : (runner : Option SchedEntity) (pids : List ℕ) (row : ℕ) → IsProp (IsRunnerRow runner pids row)
unfolding IsRunnerRow
IsRunnerRow-prop runner pids row = Prim.hlevel props
