-- A binary search by pid finds the task of a pid, or there is none.
use Rattle.std.proofs.Common.{◌≡◌, ℕ, ◌<◌, ◌≤◌, false, eqb, List, length, get_or, Result, Ok, Err, sym, inl, inr, arith}
use Rattle.std.specs.Prelude.{AllPairs, MatchOption}
use Rattle.std.specs.List.Sorted.{IsSearchInRange, IsBinarySearchResult, IsNonDecreasingBy}
use Rattle.std.specs.Ordering.{nat_cmp, ordering_index}
use Rattle.std.specs.Result.{result_ok}
use Rattle.std.proofs.lemmas.Bool.{cases_lt, cases_eq}
use Rattle.std.proofs.lemmas.Bool.Decides.{nat_tests}
use Rattle.std.proofs.lemmas.Cmp.{ranked}
use Rattle.std.proofs.lemmas.List.Folds.{list_any_none}
use Rattle.cfs_model.specs.declared.task.Task.{Task}
use Rattle.companion_file.specs.Earlier.{is_task}
use Rattle.companion_file.specs.Draft.{IsTaskIndex}

comparisons_rise : (a b pid : ℕ) → a ≤ b → ordering_index (nat_cmp a pid) ≤ ordering_index (nat_cmp b pid)
comparisons_rise a b pid le = grind (arith, nat_tests)

pub found_task : (tasks : List Task) (pid : ℕ) (r : Result ℕ ℕ) → AllPairs (λ t u. t.pid < u.pid) tasks
    → IsSearchInRange r (length tasks) → IsBinarySearchResult (λ (t : Task). nat_cmp t.pid pid) tasks r
    → MatchOption (result_ok r) (is_task tasks pid ≡ false) (IsTaskIndex tasks pid)
found_task tasks pid (Ok index) rise within equal =
    record { within = within; pid_is = λ d. ranked _ pid _ (sym (equal d)) }
found_task tasks pid (Err index) rise within parted =
    let rises : IsNonDecreasingBy (λ (t : Task). ordering_index (nat_cmp t.pid pid)) tasks = λ i j d le below.
    comparisons_rise (get_or tasks i d).pid (get_or tasks j d).pid pid
    (elim (cases_eq i j) [
      | inl same ↦ rw same (omega arith)
      | inr other ↦ let less = rise i j d (omega arith) below in omega (arith, less)
    ]) in
    list_any_none (λ (t : Task). eqb t.pid pid) tasks
    (λ k d below.
    elim (cases_lt k index) [
      | inl before ↦ let less : (get_or tasks k d).pid < pid =
          ranked _ pid _ (sym ((parted rises).0 k d (omega arith) before)) in grind (arith, nat_tests)
      | inr after ↦ let more : pid < (get_or tasks k d).pid =
          ranked _ pid _ (sym ((parted rises).1 k d (omega arith) below)) in grind (arith, nat_tests)
    ])
