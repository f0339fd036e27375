-- A list of those who wait that falls, turned round: the same tasks, the least first.
use Rattle.std.proofs.Common.{◌≡◌, inl, inr, Bool, true, false, true≢false, List, [], ◌∷◌, ◌++◌, reverse, sym, ap}
use Rattle.std.proofs.Common.{refl, ◌∙◌, subst, ℕ, zero, suc, ◌<◌, ◌≤◌, length, take, drop, slice_set, slice_index_or}
use Rattle.std.proofs.Common.{arith}
use Rattle.std.proofs.lemmas.Bool.{and_from, and_parts, cases_Bool}
use Rattle.std.specs.BTreeMap.{is_at}
use Rattle.std.specs.BTreeSet as set
use Rattle.std.specs.BTreeSet.{BTreeSet, contains}
use Rattle.std.specs.List.{AllByRecursion, insert, list_all, remove}
use Rattle.std.specs.List.Sorted.{IsStrictlySortedBy}
use Rattle.std.specs.Ordering.{is_eq, is_gt, is_lt}
use Rattle.std.specs.declared.cmp.Ordering.{Ordering}
use Rattle.std.specs.declared.cmp.Ordering.TheVariants.{Less, Equal, Greater}
use Rattle.std.proofs.lemmas.List.{append-nil, reverse-append, take-append-le, take_all}
use Rattle.std.proofs.lemmas.List.Edits.{insert_end, length-insert}
use Rattle.std.proofs.lemmas.List.Sorted.{IsPermutation-reverse, list_any-IsPermutation}
use Rattle.runqueue.specs.Entities.{by_runtime}
use Rattle.runqueue.specs.WaitingTasks.{IsSettled, Updates, falls, set_of}
use Rattle.runqueue.proofs.WaitingLists.{below_apart, has, not_below}
use Rattle.runqueue.specs.declared.waiting_task.WaitingTask.{WaitingTask}

-- turned round, a list has the same tasks
pub turned : (q : WaitingTask) (tasks keys : List WaitingTask) → keys ≡ [] → has q (reverse tasks ++ keys) ≡ has q tasks
turned q tasks keys none =
    ap (λ keys. has q (reverse tasks ++ keys)) none ∙ ap (has q) (append-nil (reverse tasks))
    ∙ sym (list_any-IsPermutation (is_at (by_runtime q)) tasks (reverse tasks) (IsPermutation-reverse tasks))

pub turned_updates : (old new keys : List WaitingTask) (task : WaitingTask) (is_there : Bool) → keys ≡ []
    → Updates (set_of old) (set_of new) task is_there
    → Updates (set_of (reverse old ++ keys)) (set_of (reverse new ++ keys)) task is_there
turned_updates old new keys task is_there none u = record {
  here = turned task new keys none ∙ u.here;
  there = λ q apart. turned q new keys none ∙ u.there q apart ∙ sym (turned q old keys none);
}

-- all of a list went to a tree, and one more
pub into_tree : (tasks emptied keys : List WaitingTask) (tree new : BTreeSet WaitingTask) (task : WaitingTask)
    → keys ≡ [] → emptied ≡ [] → ((q : WaitingTask) → contains by_runtime tree q ≡ has q tasks)
    → set.Updates by_runtime tree new task true
    → Updates (set_of (reverse tasks ++ keys)) (set_of (reverse emptied ++ new.keys)) task true
into_tree tasks emptied keys tree new task none no_more all u = record {
  here = ap (λ rest. has task (reverse rest ++ new.keys)) no_more ∙ u.1;
  there = λ q apart. ap (λ rest. has q (reverse rest ++ new.keys)) no_more ∙ u.2 q apart ∙ all q
      ∙ sym (turned q tasks keys none);
}

-- one stands before another that stands above it
before : (x y : WaitingTask) → is_gt (by_runtime x y) ≡ true → by_runtime y x ≡ Less
before x y above = go (by_runtime y x) refl
  where
    go : (o : Ordering) → by_runtime y x ≡ o → by_runtime y x ≡ Less
    go Less e = e
    go Equal e = absurd (true≢false (sym (ap is_eq e) ∙ below_apart x y above))
    go Greater e = absurd (true≢false (sym (ap is_gt e) ∙ not_below x y above))

all_before : (x : WaitingTask) (tasks : List WaitingTask) → list_all (λ other. is_gt (by_runtime x other)) tasks ≡ true
    → AllByRecursion (λ other. by_runtime other x ≡ Less) tasks
all_before x [] all = tt
all_before x (y ∷ tasks) all =
    let h = and_parts (is_gt (by_runtime x y)) (list_all (λ other. is_gt (by_runtime x other)) tasks) all in
    (before x y h.0, all_before x tasks h.1)

module _ (Holds : WaitingTask → Type 0) where
  all_and_one : (tasks : List WaitingTask) (task : WaitingTask) → AllByRecursion Holds tasks → Holds task
      → AllByRecursion Holds (tasks ++ task ∷ [])
  all_and_one [] task all one = (one, tt)
  all_and_one (y ∷ tasks) task all one = (all.0, all_and_one tasks task all.1 one)

  all_turned : (tasks : List WaitingTask) → AllByRecursion Holds tasks → AllByRecursion Holds (reverse tasks)
  all_turned [] all = tt
  all_turned (y ∷ tasks) all =
      subst (AllByRecursion Holds) (sym (reverse-append (y ∷ []) tasks))
      (all_and_one (reverse tasks) y (all_turned tasks all.1) all.0)

one_behind : (tasks : List WaitingTask) (task : WaitingTask) → IsStrictlySortedBy by_runtime tasks
    → AllByRecursion (λ other. by_runtime other task ≡ Less) tasks → IsStrictlySortedBy by_runtime (tasks ++ task ∷ [])
unfolding IsStrictlySortedBy
one_behind [] task sorted all = (tt, tt)
one_behind (y ∷ tasks) task sorted all = (
  all_and_one (λ other. by_runtime y other ≡ Less) tasks task sorted.0 all.0,
  one_behind tasks task sorted.1 all.1,
)

-- a list that falls ascends when it is turned round
pub ascends : (tasks : List WaitingTask) → falls tasks ≡ true → IsStrictlySortedBy by_runtime (reverse tasks)
unfolding IsStrictlySortedBy
ascends [] f = tt
ascends (y ∷ tasks) f =
    let h = and_parts (list_all (λ other. is_gt (by_runtime y other)) tasks) (falls tasks) f in
    subst (IsStrictlySortedBy by_runtime) (sym (reverse-append (y ∷ []) tasks))
    (one_behind (reverse tasks) y (ascends tasks h.1)
    (all_turned (λ other. by_runtime other y ≡ Less) tasks (all_before y tasks h.0)))

-- who isn't less than a task has the task not above it
pub not_above : (x y : WaitingTask) → is_lt (by_runtime y x) ≡ false → is_gt (by_runtime x y) ≡ false
not_above x y not_less =
    elim (cases_Bool (is_gt (by_runtime x y))) [
      | inl above ↦ absurd (true≢false (sym (ap is_lt (before x y above)) ∙ not_less))
      | inr other ↦ other
    ]

-- the last of a list stands behind the others
pub set_last : (tasks : List WaitingTask) (task : WaitingTask)
    → slice_set (tasks ++ task ∷ []) (length tasks) task ≡ insert tasks (length tasks) task
set_last [] task = refl
set_last (y ∷ tasks) task = ap (λ rest. y ∷ rest) (set_last tasks task)

-- to change places with the one before is to stand there
pub one_before : (tasks : List WaitingTask) (i : ℕ) (task d : WaitingTask) → i < length tasks
    → slice_set (slice_set (insert tasks (suc i) task) (suc i) (slice_index_or (insert tasks (suc i) task) i d)) i task
    ≡ insert tasks i task
one_before [] i task d lt = absurd (omega (arith, lt))
one_before (y ∷ tasks) zero task d lt = refl
one_before (y ∷ tasks) (suc i) task d lt = ap (λ rest. y ∷ rest) (one_before tasks i task d (omega (arith, lt)))

-- and the one that was passed is less too
pub less_before : (tasks : List WaitingTask) (i : ℕ) (task d : WaitingTask) → i < length tasks
    → is_gt (by_runtime task (slice_index_or (insert tasks (suc i) task) i d)) ≡ true
    → list_all (λ other. is_gt (by_runtime task other)) (drop (suc i) tasks) ≡ true
    → list_all (λ other. is_gt (by_runtime task other)) (drop i tasks) ≡ true
less_before [] i task d lt above all = absurd (omega (arith, lt))
less_before (y ∷ tasks) zero task d lt above all =
    and_from (is_gt (by_runtime task y)) (list_all (λ other. is_gt (by_runtime task other)) tasks) above all
less_before (y ∷ tasks) (suc i) task d lt above all = less_before tasks i task d (omega (arith, lt)) above all

-- what a list is in which a task has settled that was its last
pub settled_all : (tasks new rest now : List WaitingTask) (task : WaitingTask) (place count : ℕ)
    → IsSettled tasks task place new → now ≡ tasks ++ task ∷ [] → length now ≡ count
    → take count (new ++ rest) ≡ insert tasks place task
settled_all tasks new rest now task place count settled is count_is =
    let n = ap length settled.all_is ∙ length-insert tasks place task settled.within in
    let m = ap length (is ∙ sym (insert_end tasks task)) ∙ length-insert tasks (length tasks) task (omega arith) in
    take-append-le count new rest (omega (arith, n, m, count_is)) ∙ take_all count new (omega (arith, n, m, count_is))
    ∙ settled.all_is

pub removed_again : (tasks : List WaitingTask) (i : ℕ) (task : WaitingTask) → i ≤ length tasks
    → remove (insert tasks i task) i ≡ tasks
removed_again tasks zero task within = refl
removed_again [] (suc i) task within = absurd (omega (arith, within))
removed_again (y ∷ tasks) (suc i) task within =
    ap (λ rest. y ∷ rest) (removed_again tasks i task (omega (arith, within)))
