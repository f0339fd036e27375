-- Tasks in rows by pid: what a row that is written, or one more row, makes of the task of each pid.
use Rattle.std.proofs.Common.{◌≡◌, ◌≢◌, ℕ, List, [], ◌∷◌, ◌++◌, length, set, get_or, Option, Some, None, IsSome}
use Rattle.std.proofs.Common.{slice_get, refl, sym, ap, ◌∙◌}
use Rattle.std.proofs.lemmas.Option.{same_Some}
use Rattle.pid_table.proofs.Changes.{index_kept, index_new, index_other, push_before, push_here, row_within, set_here}
use Rattle.pid_table.proofs.Changes.{set_there}
use Rattle.pid_table.proofs.Indices.{pid_there}
use Rattle.pid_table.specs.Rows.{AreSound, index_in}
use Rattle.runqueue.specs.TaskRows.{IsRunnerRow, KeepsRows, TaskRows, Writes, task_at_index, task_in, task_of_row}
use Rattle.runqueue.specs.declared.sched_entity.SchedEntity.{SchedEntity}

pub keeps_more : (pids : List ℕ) (pid : ℕ) → KeepsRows pids (pids ++ pid ∷ [])
unfolding KeepsRows
keeps_more pids pid other n is = index_kept pids pid other n is

pub keeps_same : (old new : List ℕ) → new ≡ old → KeepsRows old new
unfolding KeepsRows
keeps_same old new same pid row is = ap (λ pids. index_in pids pid) same ∙ is

-- the task of a pid by its index
pub at_row : (table : TaskRows) (pid row : ℕ) → index_in table.pids pid ≡ Some row
    → task_in table pid ≡ task_of_row (slice_get table.rows row)
unfolding task_in
at_row table pid row is = ap (task_at_index table.rows) is

pub without_row : (table : TaskRows) (pid : ℕ) → index_in table.pids pid ≡ None → task_in table pid ≡ None
unfolding task_in
without_row table pid none = ap (task_at_index table.rows) none

-- a pid with a task has a row
pub has_row : (table : TaskRows) (pid : ℕ) → IsSome (task_in table pid) → index_in table.pids pid ≡ None → ⊥
has_row table pid has none = go (task_in table pid) has (without_row table pid none)
  where
    go : (o : Option SchedEntity) → IsSome o → o ≡ None → ⊥
    go None i e = cc
    go (Some t) i e = cc

-- tables with the same pids and rows
pub task_same : (old new : TaskRows) → new.pids ≡ old.pids → new.rows ≡ old.rows → (q : ℕ)
    → task_in new q ≡ task_in old q
unfolding task_in
task_same old new pids rows q = λ j. task_at_index (rows j) (index_in (pids j) q)

pub writes_from : (first old new : TaskRows) (pid : ℕ) (task : Option SchedEntity) → old.pids ≡ first.pids
    → old.rows ≡ first.rows → Writes old new pid task → Writes first new pid task
writes_from first old new pid task pids rows w = record {
  here = w.here;
  there = λ other ne. w.there other ne ∙ task_same first old pids rows other;
}

-- no rows
pub task_none : (table : TaskRows) → table.pids ≡ [] → (q : ℕ) → task_in table q ≡ None
task_none table none q = without_row table q (ap (λ pids. index_in pids q) none)

module _ (old new : TaskRows) (sound : AreSound old) where
  -- a row is written over
  pub row_written : (row : ℕ) (task : Option SchedEntity) → new.pids ≡ old.pids → new.rows ≡ set old.rows row task
      → (pid : ℕ) → index_in old.pids pid ≡ Some row → Writes old new pid task
  row_written row task pids rows pid is = record {
    here = at_row new pid row (ap (λ l. index_in l pid) pids ∙ is)
        ∙ ap (λ l. task_of_row (slice_get l row)) rows
        ∙ ap task_of_row (set_here old.rows row task (row_within old sound pid row is));
    there = λ other ne. go other ne (index_in old.pids other) refl;
  }
    where
      go : (other : ℕ) → other ≢ pid → (o : Option ℕ) → index_in old.pids other ≡ o
          → task_in new other ≡ task_in old other
      go other ne None none = without_row new other (ap (λ l. index_in l other) pids ∙ none)
          ∙ sym (without_row old other none)
      go other ne (Some k) at =
          at_row new other k (ap (λ l. index_in l other) pids ∙ at)
          ∙ ap (λ l. task_of_row (slice_get l k)) rows
          ∙ ap task_of_row (set_there old.rows row k task (λ e. ne (sym (pid_there old.pids other k 0 at)
          ∙ ap (λ i. get_or old.pids i 0) e ∙ pid_there old.pids pid row 0 is)))
          ∙ sym (at_row old other k at)

  -- a row is added
  pub row_added : (pid : ℕ) (task : Option SchedEntity) → index_in old.pids pid ≡ None
      → new.pids ≡ old.pids ++ pid ∷ [] → new.rows ≡ old.rows ++ task ∷ [] → Writes old new pid task
  row_added pid task none pids rows = record {
    here = at_row new pid (length old.rows)
        (ap (λ l. index_in l pid) pids ∙ index_new old.pids pid none ∙ ap Some (sym sound.one_each))
        ∙ ap (λ l. task_of_row (slice_get l (length old.rows))) rows
        ∙ ap task_of_row (push_here old.rows task);
    there = λ other ne. go other ne (index_in old.pids other) refl;
  }
    where
      go : (other : ℕ) → other ≢ pid → (o : Option ℕ) → index_in old.pids other ≡ o
          → task_in new other ≡ task_in old other
      go other ne None is =
          without_row new other (ap (λ l. index_in l other) pids ∙ index_other old.pids pid other ne ∙ is)
          ∙ sym (without_row old other is)
      go other ne (Some k) is =
          at_row new other k (ap (λ l. index_in l other) pids ∙ index_other old.pids pid other ne ∙ is)
          ∙ ap (λ l. task_of_row (slice_get l k)) rows
          ∙ ap task_of_row (push_before old.rows task k (row_within old sound other k is))
          ∙ sym (at_row old other k is)

-- a pid that has no row, and is taken out of it, changes nothing
pub nothing_written : (table : TaskRows) (pid : ℕ) → index_in table.pids pid ≡ None → Writes table table pid None
nothing_written table pid none = record { here = without_row table pid none; there = λ other ne. refl }

-- where the runner sits
pub runner_row_none : (runner : Option SchedEntity) (pids : List ℕ) (row : ℕ) → runner ≡ None
    → IsRunnerRow runner pids row
unfolding IsRunnerRow
runner_row_none runner pids row none t e = let f : None ≡ Some t = sym none ∙ e in cc

pub runner_row_at : (t : SchedEntity) (pids : List ℕ) (row : ℕ) → index_in pids t.pid ≡ Some row
    → IsRunnerRow (Some t) pids row
unfolding IsRunnerRow
runner_row_at t pids row is u e = ap (λ (x : SchedEntity). index_in pids x.pid) (sym (same_Some t u e)) ∙ is

pub runner_row_is : (runner : Option SchedEntity) (pids : List ℕ) (row : ℕ) → IsRunnerRow runner pids row
    → (t : SchedEntity) → runner ≡ Some t → index_in pids t.pid ≡ Some row
unfolding IsRunnerRow
runner_row_is runner pids row in_row t e = in_row t e

pub runner_row_kept : (runner : Option SchedEntity) (old new : List ℕ) (row : ℕ) → IsRunnerRow runner old row
    → KeepsRows old new → IsRunnerRow runner new row
unfolding IsRunnerRow KeepsRows
runner_row_kept runner old new row in_row keeps t e = keeps t.pid row (in_row t e)

pub runner_row_same : (runner r : Option SchedEntity) (pids p : List ℕ) (row s : ℕ) → r ≡ runner → p ≡ pids → s ≡ row
    → IsRunnerRow runner pids row → IsRunnerRow r p s
unfolding IsRunnerRow
runner_row_same runner r pids p row s e f g in_row t is =
    ap (λ l. index_in l t.pid) f ∙ in_row t (sym e ∙ is) ∙ ap Some (sym g)
