-- What a start keeps, from the same facts by index, as a list's readers state them.
use Rattle.std.proofs.Common.{suc, ◌<◌, List, [], ◌∷◌, All, AllPairs, ℤ, suc-le-suc, arith}
use Rattle.std.proofs.lemmas.List.Elements.{recursion_from_All}
use Rattle.cfs_model.specs.Charge.{IsInRange}
use Rattle.cfs_model.specs.Order.{RunTogether, RunApart, PidsRise, OneRuns, IsStart}
use Rattle.cfs_model.specs.declared.task.Task.{Task}

-- a fact of each pair, of the first with each later one and of the pairs after it
pair_head : (R : Task → Task → Type 0) (t : Task) (tasks : List Task) → AllPairs R (t ∷ tasks) → All (λ u. R t u) tasks
pair_head R t tasks h = λ k d within. h 0 (suc k) d (omega arith) (suc-le-suc within)

pair_tail : (R : Task → Task → Type 0) (t : Task) (tasks : List Task) → AllPairs R (t ∷ tasks) → AllPairs R tasks
pair_tail R t tasks h = λ i j d below within. h (suc i) (suc j) d (suc-le-suc below) (suc-le-suc within)

pids_rise_from : (tasks : List Task) → AllPairs (λ t u. t.pid < u.pid) tasks → PidsRise tasks
pids_rise_from [] h = tt
pids_rise_from (t ∷ tasks) h = (
  recursion_from_All (λ u. t.pid < u.pid) tasks (pair_head (λ t u. t.pid < u.pid) t tasks h),
  pids_rise_from tasks (pair_tail (λ t u. t.pid < u.pid) t tasks h),
)

one_runs_from : (tasks : List Task) → AllPairs RunApart tasks → OneRuns tasks
one_runs_from [] h = tt
one_runs_from (t ∷ tasks) h = (
  recursion_from_All (λ u. ¬ RunTogether t u) tasks
      (λ k d within both. pair_head RunApart t tasks h k d within both.0 both.1 both.2),
  one_runs_from tasks (pair_tail RunApart t tasks h),
)

pub start_from : (floors : List ℤ) (tasks : List Task) → AllPairs (λ t u. t.pid < u.pid) tasks → AllPairs RunApart tasks
    → All (λ t. IsInRange t.v) tasks → All IsInRange floors → IsStart floors tasks
start_from floors tasks rise apart runtimes within = record {
  pids_rise = pids_rise_from tasks rise;
  one_runs = one_runs_from tasks apart;
  runtimes_in_range = recursion_from_All (λ t. IsInRange t.v) tasks runtimes;
  floors_in_range = recursion_from_All IsInRange floors within;
}
