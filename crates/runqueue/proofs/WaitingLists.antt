-- A list of those who wait that falls: one more in its place, one less, and the last, which is the least.
use Rattle.std.proofs.Common.{◌≡◌, ℕ, zero, suc, ◌-◌, ◌<◌, ◌≤◌, Bool, true, false, List, [], ◌∷◌, ◌++◌}
use Rattle.std.proofs.Common.{length, take, drop, get_or, ◌&&◌, ◌||◌, ◌<ℤ◌, ◌⊎◌, inl, inr, refl, sym, ap, ◌∙◌}
use Rattle.std.proofs.Common.{subst, eqb, true≢false, arith}
use Rattle.std.specs.BTreeMap.{is_at}
use Rattle.std.specs.BTreeSet as set
use Rattle.std.specs.BTreeSet.{BTreeSet, contains}
use Rattle.std.specs.List.{insert, list_all, list_any, remove}
use Rattle.std.specs.Ordering.{MatchOrdering, int_cmp, is_eq, is_gt, is_lt, nat_cmp, ordering_then}
use Rattle.std.specs.declared.cmp.Ordering.{Ordering}
use Rattle.std.specs.declared.cmp.Ordering.TheVariants.{Less, Equal, Greater}
use Rattle.std.proofs.lemmas.Bool.{and_from, and_parts, cases_Bool, eq-eqb, eqb-true}
use Rattle.std.proofs.lemmas.Cmp.{int_ranked, ranked}
use Rattle.std.proofs.lemmas.Int.{ints}
use Rattle.std.proofs.Math.ListN.{drop_of_length-le}
use Rattle.std.proofs.lemmas.List.{append-nil}
use Rattle.std.proofs.lemmas.List.Folds.{list_any-append}
use Rattle.runqueue.specs.Entities.{by_runtime}
use Rattle.runqueue.specs.WaitingTasks.{falls}
use Rattle.runqueue.proofs.EntitiesKept.{exact_runtimes, other_pair}
use Rattle.runqueue.specs.declared.waiting_task.WaitingTask.{WaitingTask}

-- one stands above another
abbrev Above : WaitingTask → WaitingTask → Type 0
Above x y = (y.v <ℤ x.v) ⊎ ((x.v ≡ y.v) × (y.pid < x.pid))

is_above : (x y : WaitingTask) → is_gt (by_runtime x y) ≡ true → Above x y
is_above x y = by_runtimes (int_cmp x.v y.v) (int_ranked x.v y.v (int_cmp x.v y.v) refl)
  where
    by_pids : x.v ≡ y.v → (o : Ordering) → MatchOrdering o (x.pid < y.pid) (x.pid ≡ y.pid) (y.pid < x.pid)
        → is_gt o ≡ true → Above x y
    by_pids same Less h e = absurd cc
    by_pids same Equal h e = absurd cc
    by_pids same Greater h e = inr (same, h)

    by_runtimes : (o : Ordering) → MatchOrdering o (x.v <ℤ y.v) (x.v ≡ y.v) (y.v <ℤ x.v)
        → is_gt (ordering_then o (nat_cmp x.pid y.pid)) ≡ true → Above x y
    by_runtimes Less h e = absurd cc
    by_runtimes Equal h e = by_pids h (nat_cmp x.pid y.pid) (ranked x.pid y.pid (nat_cmp x.pid y.pid) refl) e
    by_runtimes Greater h e = inl h

to_above : (x y : WaitingTask) → Above x y → is_gt (by_runtime x y) ≡ true
to_above x y a = by_runtimes (int_cmp x.v y.v) (int_ranked x.v y.v (int_cmp x.v y.v) refl) a
  where
    by_pids : y.pid < x.pid → (o : Ordering) → MatchOrdering o (x.pid < y.pid) (x.pid ≡ y.pid) (y.pid < x.pid)
        → is_gt o ≡ true
    by_pids lt Less h = absurd (omega (arith, lt, h))
    by_pids lt Equal h = absurd (omega (arith, lt, h))
    by_pids lt Greater h = refl

    by_runtimes : (o : Ordering) → MatchOrdering o (x.v <ℤ y.v) (x.v ≡ y.v) (y.v <ℤ x.v) → Above x y
        → is_gt (ordering_then o (nat_cmp x.pid y.pid)) ≡ true
    by_runtimes Less h (inl lt) = absurd (omega (arith, ints, h, lt))
    by_runtimes Less h (inr (same, lt)) = absurd (omega (arith, ints, h, same))
    by_runtimes Equal h (inl lt) = absurd (omega (arith, ints, h, lt))
    by_runtimes Equal h (inr (same, lt)) = by_pids lt (nat_cmp x.pid y.pid)
        (ranked x.pid y.pid (nat_cmp x.pid y.pid) refl)
    by_runtimes Greater h a = refl

-- two that the order takes for one have the same values
same_values : (x y : WaitingTask) → is_eq (by_runtime x y) ≡ true → (x.v ≡ y.v) × (x.pid ≡ y.pid)
same_values x y = by_runtimes (int_cmp x.v y.v) (int_ranked x.v y.v (int_cmp x.v y.v) refl)
  where
    by_pids : x.v ≡ y.v → (o : Ordering) → MatchOrdering o (x.pid < y.pid) (x.pid ≡ y.pid) (y.pid < x.pid)
        → is_eq o ≡ true → (x.v ≡ y.v) × (x.pid ≡ y.pid)
    by_pids same Less h e = absurd cc
    by_pids same Equal h e = (same, h)
    by_pids same Greater h e = absurd cc

    by_runtimes : (o : Ordering) → MatchOrdering o (x.v <ℤ y.v) (x.v ≡ y.v) (y.v <ℤ x.v)
        → is_eq (ordering_then o (nat_cmp x.pid y.pid)) ≡ true → (x.v ≡ y.v) × (x.pid ≡ y.pid)
    by_runtimes Less h e = absurd cc
    by_runtimes Equal h e = by_pids h (nat_cmp x.pid y.pid) (ranked x.pid y.pid (nat_cmp x.pid y.pid) refl) e
    by_runtimes Greater h e = absurd cc

-- one that stands above another isn't it, either way
above_apart : (x y : WaitingTask) → is_gt (by_runtime x y) ≡ true → is_eq (by_runtime x y) ≡ false
above_apart x y a = elim (cases_Bool (is_eq (by_runtime x y))) [ inl same ↦ absurd (never same) | inr other ↦ other ]
  where
    never : is_eq (by_runtime x y) ≡ true → ⊥
    never same =
        let e = same_values x y same in
        elim (is_above x y a) [
          | inl lt ↦ (let v = e.0 in omega (arith, ints, lt, v))
          | inr under ↦ (let p = e.1 in let lt = under.1 in omega (arith, lt, p))
        ]

pub below_apart : (x y : WaitingTask) → is_gt (by_runtime x y) ≡ true → is_eq (by_runtime y x) ≡ false
below_apart x y a = elim (cases_Bool (is_eq (by_runtime y x))) [ inl same ↦ absurd (never same) | inr other ↦ other ]
  where
    never : is_eq (by_runtime y x) ≡ true → ⊥
    never same =
        let e = same_values y x same in
        elim (is_above x y a) [
          | inl lt ↦ (let v = e.0 in omega (arith, ints, lt, v))
          | inr under ↦ (let p = e.1 in let lt = under.1 in omega (arith, lt, p))
        ]

-- and doesn't stand below it
pub not_below : (x y : WaitingTask) → is_gt (by_runtime x y) ≡ true → is_gt (by_runtime y x) ≡ false
not_below x y a = elim (cases_Bool (is_gt (by_runtime y x))) [ inl back ↦ absurd (never back) | inr no' ↦ no' ]
  where
    never : is_gt (by_runtime y x) ≡ true → ⊥
    never back = cross (is_above x y a) (is_above y x back)
      where
        cross : Above x y → Above y x → ⊥
        cross (inl lt) (inl gt) = omega (arith, ints, lt, gt)
        cross (inl lt) (inr (same, gt)) = omega (arith, ints, lt, same)
        cross (inr (same, lt)) (inl gt) = omega (arith, ints, gt, same)
        cross (inr (same, lt)) (inr (e, gt)) = omega (arith, lt, gt)

above_through : (x y z : WaitingTask) → is_gt (by_runtime x y) ≡ true → is_gt (by_runtime y z) ≡ true
    → is_gt (by_runtime x z) ≡ true
above_through x y z a b = to_above x z (through (is_above x y a) (is_above y z b))
  where
    through : Above x y → Above y z → Above x z
    through (inl lt) (inl gt) = inl (omega (arith, ints, lt, gt))
    through (inl lt) (inr (same, gt)) = inl (omega (arith, ints, lt, same))
    through (inr (same, lt)) (inl gt) = inl (omega (arith, ints, gt, same))
    through (inr (same, lt)) (inr (e, gt)) = inr (same ∙ e, omega (arith, lt, gt))

-- of two that aren't one, one stands above the other
above_else : (x y : WaitingTask) → is_gt (by_runtime x y) ≡ false → is_eq (by_runtime y x) ≡ false
    → is_gt (by_runtime y x) ≡ true
above_else x y a b = go (by_runtime y x) refl
  where
    go : (o : Ordering) → by_runtime y x ≡ o → is_gt (by_runtime y x) ≡ true
    go Less e = absurd (true≢false (sym (to_above x y (swapped e)) ∙ a))
      where
        swapped : by_runtime y x ≡ Less → Above x y
        swapped = by_runtimes (int_cmp y.v x.v) (int_ranked y.v x.v (int_cmp y.v x.v) refl)
          where
            by_pids : y.v ≡ x.v → (o : Ordering) → MatchOrdering o (y.pid < x.pid) (y.pid ≡ x.pid) (x.pid < y.pid)
                → o ≡ Less → Above x y
            by_pids same Less h e = inr (sym same, h)
            by_pids same Equal h e = absurd cc
            by_pids same Greater h e = absurd cc

            by_runtimes : (o : Ordering) → MatchOrdering o (y.v <ℤ x.v) (y.v ≡ x.v) (x.v <ℤ y.v)
                → ordering_then o (nat_cmp y.pid x.pid) ≡ Less → Above x y
            by_runtimes Less h e = inl h
            by_runtimes Equal h e = by_pids h (nat_cmp y.pid x.pid) (ranked y.pid x.pid (nat_cmp y.pid x.pid) refl) e
            by_runtimes Greater h e = absurd cc
    go Equal e = absurd (true≢false (sym (ap is_eq e) ∙ b))
    go Greater e = ap is_gt e

pub itself : (x : WaitingTask) → is_eq (by_runtime x x) ≡ true
itself x = by_runtimes (int_cmp x.v x.v) (int_ranked x.v x.v (int_cmp x.v x.v) refl)
  where
    by_pids : (o : Ordering) → MatchOrdering o (x.pid < x.pid) (x.pid ≡ x.pid) (x.pid < x.pid) → is_eq o ≡ true
    by_pids Less h = absurd (omega (arith, h))
    by_pids Equal h = refl
    by_pids Greater h = absurd (omega (arith, h))

    by_runtimes : (o : Ordering) → MatchOrdering o (x.v <ℤ x.v) (x.v ≡ x.v) (x.v <ℤ x.v)
        → is_eq (ordering_then o (nat_cmp x.pid x.pid)) ≡ true
    by_runtimes Less h = absurd (omega (arith, ints, h))
    by_runtimes Equal h = by_pids (nat_cmp x.pid x.pid) (ranked x.pid x.pid (nat_cmp x.pid x.pid) refl)
    by_runtimes Greater h = absurd (omega (arith, ints, h))

apart_back : (x y : WaitingTask) → is_eq (by_runtime x y) ≡ false → is_eq (by_runtime y x) ≡ false
apart_back x y apart = other_pair y x (λ same. true≢false (sym (itself x)
    ∙ ap (λ z. is_eq (by_runtime x z)) (sym same) ∙ apart))

-- one that is less stands below
pub above_less : (x y : WaitingTask) → is_lt (by_runtime x y) ≡ true → is_gt (by_runtime y x) ≡ true
above_less x y less = go (by_runtime x y) refl
  where
    go : (o : Ordering) → by_runtime x y ≡ o → is_gt (by_runtime y x) ≡ true
    go Less e = above_else x y (ap is_gt e) (apart_back x y (ap is_eq e))
    go Equal e = absurd (true≢false (sym less ∙ ap is_lt e))
    go Greater e = absurd (true≢false (sym less ∙ ap is_lt e))

or_true : (a b : Bool) → b ≡ true → (a || b) ≡ true
or_true true b e = refl
or_true false b e = e

-- whether one is in a list
abbrev pub has : WaitingTask → List WaitingTask → Bool
has task tasks = list_any (is_at (by_runtime task)) tasks

-- all from an index on are less than one, and the one before is greater
pub record StandsAt (task : WaitingTask) (tasks : List WaitingTask) (i : ℕ) : Type 0 where
  pub within : i ≤ length tasks
  pub less : list_all (λ other. is_gt (by_runtime task other)) (drop i tasks) ≡ true
  pub greater : (d : WaitingTask) → 0 < i → is_gt (by_runtime (get_or tasks (i - 1) d) task) ≡ true

-- what a walk from the least finds, where the one that it stops at isn't it
abbrev pub Walked : WaitingTask → List WaitingTask → ℕ → Type 0
Walked task tasks i = (i ≤ length tasks) × (list_all (λ other. is_gt (by_runtime task other)) (drop i tasks) ≡ true)
    × ((d : WaitingTask) → 0 < i → is_gt (by_runtime task (get_or tasks (i - 1) d)) ≡ false)

pub stands_at : (task : WaitingTask) (tasks : List WaitingTask) (i : ℕ) → Walked task tasks i
    → ((d : WaitingTask) → 0 < i → is_eq (by_runtime task (get_or tasks (i - 1) d)) ≡ false) → StandsAt task tasks i
stands_at task tasks i walked apart = record {
  within = walked.0;
  less = walked.1;
  greater = λ d some. above_else task (get_or tasks (i - 1) d) (walked.2 d some)
      (apart_back task (get_or tasks (i - 1) d) (apart d some));
}

all_above : (x y : WaitingTask) (tasks : List WaitingTask) → is_gt (by_runtime x y) ≡ true
    → list_all (λ other. is_gt (by_runtime y other)) tasks ≡ true
    → list_all (λ other. is_gt (by_runtime x other)) tasks ≡ true
all_above x y [] a all = refl
all_above x y (z ∷ tasks) a all =
    let h = and_parts (is_gt (by_runtime y z)) (list_all (λ other. is_gt (by_runtime y other)) tasks) all in
    and_from (is_gt (by_runtime x z)) (list_all (λ other. is_gt (by_runtime x other)) tasks)
    (above_through x y z a h.0) (all_above x y tasks a h.1)

-- none below one is it
none_below : (x : WaitingTask) (tasks : List WaitingTask)
    → list_all (λ other. is_gt (by_runtime x other)) tasks ≡ true → has x tasks ≡ false
none_below x [] all = refl
none_below x (y ∷ tasks) all =
    let h = and_parts (is_gt (by_runtime x y)) (list_all (λ other. is_gt (by_runtime x other)) tasks) all in
    ap (λ b. b || has x tasks) (above_apart x y h.0) ∙ none_below x tasks h.1

-- one that stands above all stands above each
above_at : (x : WaitingTask) (i : ℕ) (tasks : List WaitingTask) (d : WaitingTask)
    → list_all (λ other. is_gt (by_runtime x other)) tasks ≡ true → i < length tasks
    → is_gt (by_runtime x (get_or tasks i d)) ≡ true
above_at x i [] d all lt = absurd (omega (arith, lt))
above_at x zero (y ∷ tasks) d all lt =
    (and_parts (is_gt (by_runtime x y)) (list_all (λ other. is_gt (by_runtime x other)) tasks) all).0
above_at x (suc i) (y ∷ tasks) d all lt =
    above_at x i tasks d
    ((and_parts (is_gt (by_runtime x y)) (list_all (λ other. is_gt (by_runtime x other)) tasks) all).1)
    (omega (arith, lt))

module _ (task : WaitingTask) where
  -- behind the first the same
  later : (y : WaitingTask) (tasks : List WaitingTask) (i : ℕ) → StandsAt task (y ∷ tasks) (suc i)
      → StandsAt task tasks i
  later y tasks i at = record {
    within = (let w = at.within in omega (arith, w));
    less = at.less;
    greater = λ d some.
        let before : suc i - 1 ≡ suc (i - 1) = omega (arith, some) in
        subst (λ k. is_gt (by_runtime (get_or (y ∷ tasks) k d) task) ≡ true) before (at.greater d (omega arith));
  }

  -- the first stands above it, if it isn't the place
  first_above : (y : WaitingTask) (tasks : List WaitingTask) (i : ℕ) → falls (y ∷ tasks) ≡ true
      → StandsAt task (y ∷ tasks) (suc i) → is_gt (by_runtime y task) ≡ true
  first_above y tasks zero f at = at.greater y (omega arith)
  first_above y tasks (suc i) f at =
      let h = and_parts (list_all (λ other. is_gt (by_runtime y other)) tasks) (falls tasks) f in
      let at_next = later y tasks (suc i) at in
      let w = at_next.within in
      let before : suc i - 1 ≡ i = omega arith in
      above_through y (get_or tasks i y) task (above_at y i tasks y h.0 (omega (arith, w)))
      (subst (λ k. is_gt (by_runtime (get_or tasks k y) task) ≡ true) before (at_next.greater y (omega arith)))

  -- where it has a place so, it isn't there
  pub absent : (tasks : List WaitingTask) (i : ℕ) → falls tasks ≡ true → StandsAt task tasks i → has task tasks ≡ false
  absent tasks zero f at = none_below task tasks at.less
  absent [] (suc i) f at = (let w = at.within in absurd (omega (arith, w)))
  absent (y ∷ tasks) (suc i) f at =
      let h = and_parts (list_all (λ other. is_gt (by_runtime y other)) tasks) (falls tasks) f in
      ap (λ b. b || has task tasks) (below_apart y task (first_above y tasks i f at))
      ∙ absent tasks i h.1 (later y tasks i at)

  all_inserted : (x : WaitingTask) (i : ℕ) (tasks : List WaitingTask) → is_gt (by_runtime x task) ≡ true
      → list_all (λ other. is_gt (by_runtime x other)) tasks ≡ true
      → list_all (λ other. is_gt (by_runtime x other)) (insert tasks i task) ≡ true
  all_inserted x zero tasks a all =
      and_from (is_gt (by_runtime x task)) (list_all (λ other. is_gt (by_runtime x other)) tasks) a all
  all_inserted x (suc i) [] a all = and_from (is_gt (by_runtime x task)) true a refl
  all_inserted x (suc i) (y ∷ tasks) a all =
      let h = and_parts (is_gt (by_runtime x y)) (list_all (λ other. is_gt (by_runtime x other)) tasks) all in
      and_from (is_gt (by_runtime x y)) (list_all (λ other. is_gt (by_runtime x other)) (insert tasks i task)) h.0
      (all_inserted x i tasks a h.1)

  -- the list falls with it there
  pub inserted_falls : (tasks : List WaitingTask) (i : ℕ) → falls tasks ≡ true → StandsAt task tasks i
      → falls (insert tasks i task) ≡ true
  inserted_falls tasks zero f at =
      and_from (list_all (λ other. is_gt (by_runtime task other)) tasks) (falls tasks) at.less f
  inserted_falls [] (suc i) f at = (let w = at.within in absurd (omega (arith, w)))
  inserted_falls (y ∷ tasks) (suc i) f at =
      let h = and_parts (list_all (λ other. is_gt (by_runtime y other)) tasks) (falls tasks) f in
      and_from (list_all (λ other. is_gt (by_runtime y other)) (insert tasks i task)) (falls (insert tasks i task))
      (all_inserted y i tasks (first_above y tasks i f at) h.0) (inserted_falls tasks i h.1 (later y tasks i at))

  -- and is there, beside those that were
  pub inserted_here : (i : ℕ) (tasks : List WaitingTask) → has task (insert tasks i task) ≡ true
  inserted_here zero tasks = ap (λ b. b || has task tasks) (itself task)
  inserted_here (suc i) [] = ap (λ b. b || false) (itself task)
  inserted_here (suc i) (y ∷ tasks) = or_true (is_eq (by_runtime task y)) _ (inserted_here i tasks)

  pub inserted_there : (q : WaitingTask) (i : ℕ) (tasks : List WaitingTask) → is_eq (by_runtime task q) ≡ false
      → has q (insert tasks i task) ≡ has q tasks
  inserted_there q zero tasks apart = ap (λ b. b || has q tasks) (apart_back task q apart)
  inserted_there q (suc i) [] apart = ap (λ b. b || false) (apart_back task q apart)
  inserted_there q (suc i) (y ∷ tasks) apart = ap (λ b. is_eq (by_runtime q y) || b) (inserted_there q i tasks apart)

all_removed : (x : WaitingTask) (i : ℕ) (tasks : List WaitingTask)
    → list_all (λ other. is_gt (by_runtime x other)) tasks ≡ true
    → list_all (λ other. is_gt (by_runtime x other)) (remove tasks i) ≡ true
all_removed x zero [] all = refl
all_removed x (suc i) [] all = refl
all_removed x zero (y ∷ tasks) all =
    (and_parts (is_gt (by_runtime x y)) (list_all (λ other. is_gt (by_runtime x other)) tasks) all).1
all_removed x (suc i) (y ∷ tasks) all =
    let h = and_parts (is_gt (by_runtime x y)) (list_all (λ other. is_gt (by_runtime x other)) tasks) all in
    and_from (is_gt (by_runtime x y)) (list_all (λ other. is_gt (by_runtime x other)) (remove tasks i)) h.0
    (all_removed x i tasks h.1)

pub removed_falls : (i : ℕ) (tasks : List WaitingTask) → falls tasks ≡ true → falls (remove tasks i) ≡ true
removed_falls zero [] f = refl
removed_falls (suc i) [] f = refl
removed_falls zero (y ∷ tasks) f =
    (and_parts (list_all (λ other. is_gt (by_runtime y other)) tasks) (falls tasks) f).1
removed_falls (suc i) (y ∷ tasks) f =
    let h = and_parts (list_all (λ other. is_gt (by_runtime y other)) tasks) (falls tasks) f in
    and_from (list_all (λ other. is_gt (by_runtime y other)) (remove tasks i)) (falls (remove tasks i))
    (all_removed y i tasks h.0) (removed_falls i tasks h.1)

-- to take out the last is to take it off
pub last_removed : (tasks : List WaitingTask) → 0 < length tasks
    → remove tasks (length tasks - 1) ≡ take (length tasks - 1) tasks
last_removed tasks some =
    ap (λ rest. take (length tasks - 1) tasks ++ rest)
    (drop_of_length-le tasks {i = suc (length tasks - 1)} (omega (arith, some)))
    ∙ append-nil (take (length tasks - 1) tasks)

module _ (task : WaitingTask) where
  -- one that is taken out isn't there any more, and the others are
  pub removed_here : (i : ℕ) (tasks : List WaitingTask) → falls tasks ≡ true → i < length tasks
      → task ≡ get_or tasks i task → has task (remove tasks i) ≡ false
  removed_here i [] f lt is = absurd (omega (arith, lt))
  removed_here zero (y ∷ tasks) f lt is =
      none_below task tasks (subst (λ x. list_all (λ other. is_gt (by_runtime x other)) tasks ≡ true) (sym is)
      ((and_parts (list_all (λ other. is_gt (by_runtime y other)) tasks) (falls tasks) f).0))
  removed_here (suc i) (y ∷ tasks) f lt is =
      let h = and_parts (list_all (λ other. is_gt (by_runtime y other)) tasks) (falls tasks) f in
      let above : is_gt (by_runtime y task) ≡ true =
      subst (λ x. is_gt (by_runtime y x) ≡ true) (sym is) (above_at y i tasks task h.0 (omega (arith, lt))) in
      ap (λ b. b || has task (remove tasks i)) (below_apart y task above)
      ∙ removed_here i tasks h.1 (omega (arith, lt)) is

  pub removed_there : (q : WaitingTask) (i : ℕ) (tasks : List WaitingTask) → is_eq (by_runtime task q) ≡ false
      → i < length tasks → task ≡ get_or tasks i task → has q (remove tasks i) ≡ has q tasks
  removed_there q i [] apart lt is = absurd (omega (arith, lt))
  removed_there q zero (y ∷ tasks) apart lt is =
      ap (λ b. b || has q tasks) (sym (apart_back y q
      (subst (λ x. is_eq (by_runtime x q) ≡ false) is apart)))
  removed_there q (suc i) (y ∷ tasks) apart lt is =
      ap (λ b. is_eq (by_runtime q y) || b) (removed_there q i tasks apart (omega (arith, lt)) is)

-- the last is the least
pub last_least : (tasks : List WaitingTask) (last q : WaitingTask) → falls tasks ≡ true → 0 < length tasks
    → last ≡ get_or tasks (length tasks - 1) last → has q tasks ≡ true → is_gt (by_runtime last q) ≡ false
last_least [] last q f lt is there = absurd (omega (arith, lt))
last_least (y ∷ []) last q f lt is there =
    elim (cases_Bool (is_eq (by_runtime q y))) [
      | inl same ↦ subst (λ x. is_gt (by_runtime x q) ≡ false) (exact_runtimes q y same ∙ sym is) (not_gt q)
      | inr other ↦ absurd (true≢false (sym there ∙ ap (λ b. b || false) other))
    ]
  where
    not_gt : (x : WaitingTask) → is_gt (by_runtime x x) ≡ false
    not_gt x = by_equal (by_runtime x x) (itself x)
      where
        by_equal : (o : Ordering) → is_eq o ≡ true → is_gt o ≡ false
        by_equal Less e = absurd cc
        by_equal Equal e = refl
        by_equal Greater e = absurd cc
last_least (y ∷ z ∷ tasks) last q f lt is there =
    let h = and_parts (list_all (λ other. is_gt (by_runtime y other)) (z ∷ tasks)) (falls (z ∷ tasks)) f in
    let count : suc (suc (length tasks)) - 1 ≡ suc (length tasks) = omega arith in
    let fewer : length tasks ≡ suc (length tasks) - 1 = omega arith in
    let here : last ≡ get_or (z ∷ tasks) (length tasks) last =
    is ∙ ap (λ i. get_or (y ∷ z ∷ tasks) i last) count in
    elim (cases_Bool (is_eq (by_runtime q y))) [
      | inl same ↦
          let at : is_gt (by_runtime y last) ≡ true =
          subst (λ x. is_gt (by_runtime y x) ≡ true) (sym here)
          (above_at y (length tasks) (z ∷ tasks) last h.0 (omega arith)) in
          subst (λ x. is_gt (by_runtime last x) ≡ false) (sym (exact_runtimes q y same)) (not_below y last at)
      | inr other ↦ last_least (z ∷ tasks) last q h.1 (omega arith)
          (here ∙ ap (λ i. get_or (z ∷ tasks) i last) fewer)
          (sym (ap (λ b. b || has q (z ∷ tasks)) other) ∙ there)
    ]

-- where something stands in one of two lists, of which one is empty, it isn't the other
pub alone : (count other : ℕ) → (0 < count → other ≡ 0) → 0 < other → count ≡ 0
alone zero other apart lt = refl
alone (suc count) other apart lt = let e = apart (omega arith) in absurd (omega (arith, e, lt))

-- one whose values differ isn't it
pub differs : (task other : WaitingTask) → (is_eq (int_cmp other.v task.v) && eqb other.pid task.pid) ≡ false
    → is_eq (by_runtime task other) ≡ false
differs task other apart = apart_back other task (by_runtimes (int_cmp other.v task.v) apart)
  where
    by_pids : (o : Ordering) → MatchOrdering o (other.pid < task.pid) (other.pid ≡ task.pid) (task.pid < other.pid)
        → eqb other.pid task.pid ≡ false → is_eq o ≡ false
    by_pids Less h e = refl
    by_pids Equal h e = absurd (true≢false (sym (eq-eqb other.pid task.pid h) ∙ e))
    by_pids Greater h e = refl

    by_runtimes : (o : Ordering) → (is_eq o && eqb other.pid task.pid) ≡ false
        → is_eq (ordering_then o (nat_cmp other.pid task.pid)) ≡ false
    by_runtimes Less e = refl
    by_runtimes Equal e = by_pids (nat_cmp other.pid task.pid)
        (ranked other.pid task.pid (nat_cmp other.pid task.pid) refl) e
    by_runtimes Greater e = refl

pub equals : (task other : WaitingTask) → (is_eq (int_cmp other.v task.v) && eqb other.pid task.pid) ≡ true
    → other ≡ task
equals task other same = exact_runtimes other task (by_runtimes (int_cmp other.v task.v) same)
  where
    by_pids : (o : Ordering) → MatchOrdering o (other.pid < task.pid) (other.pid ≡ task.pid) (task.pid < other.pid)
        → eqb other.pid task.pid ≡ true → is_eq o ≡ true
    by_pids Less h e = (let p = eqb-true other.pid task.pid e in absurd (omega (arith, h, p)))
    by_pids Equal h e = refl
    by_pids Greater h e = (let p = eqb-true other.pid task.pid e in absurd (omega (arith, h, p)))

    by_runtimes : (o : Ordering) → (is_eq o && eqb other.pid task.pid) ≡ true
        → is_eq (ordering_then o (nat_cmp other.pid task.pid)) ≡ true
    by_runtimes Less e = absurd cc
    by_runtimes Equal e = by_pids (nat_cmp other.pid task.pid)
        (ranked other.pid task.pid (nat_cmp other.pid task.pid) refl) e
    by_runtimes Greater e = absurd cc

-- one more of a list is in the tree
pub one_more : (old new : BTreeSet WaitingTask) (task : WaitingTask) (tasks : List WaitingTask)
    → set.Updates by_runtime old new task true
    → ((q : WaitingTask) → contains by_runtime old q ≡ has q tasks)
    → (q : WaitingTask) → contains by_runtime new q ≡ has q (tasks ++ task ∷ [])
one_more old new task tasks u old_has q =
    elim (cases_Bool (is_eq (by_runtime task q))) [
      | inl same ↦
          let is = exact_runtimes task q same in
          subst (λ x. contains by_runtime new x ≡ has x (tasks ++ task ∷ [])) is
          (u.1 ∙ sym (list_any-append (is_at (by_runtime task)) tasks (task ∷ [])
          ∙ or_true (has task tasks) _ (ap (λ b. b || false) (itself task))))
      | inr apart ↦
          u.2 q apart ∙ old_has q
          ∙ sym (list_any-append (is_at (by_runtime q)) tasks (task ∷ [])
          ∙ ap (λ b. has q tasks || (b || false)) (apart_back task q apart) ∙ or_false (has q tasks))
    ]
  where
    or_false : (b : Bool) → (b || false) ≡ b
    or_false true = refl
    or_false false = refl
