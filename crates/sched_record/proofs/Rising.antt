-- Lists whose elements stand in an order from each to every later one.
use Rattle.std.proofs.Common.{◌≡◌, ℕ, zero, suc, ◌+◌, ◌<◌, ◌≤◌, List, [], ◌∷◌, ◌++◌, length, get_or, map, take, drop}
use Rattle.std.proofs.Common.{sym, ap, ◌∙◌, arith}
use Rattle.std.specs.Prelude.{All}
use Rattle.std.specs.List.{AllPairs}
use Rattle.std.specs.List.Sorted.{IsStrictlyIncreasing}
use Rattle.std.proofs.lemmas.List.{drop_more, get_or-map, length-map, take-append-drop}
use Rattle.cfs_model.specs.declared.act.Entry.{Entry}
use Rattle.sched_record.specs.Join.{BeginsInTime}

-- one more in front, which stands in the order to all
pub pairs_cons : {X : Type 0} (R : X → X → Type 0) (x : X) (xs : List X) → All (λ y. R x y) xs → AllPairs R xs
    → AllPairs R (x ∷ xs)
pairs_cons R x xs first pairs zero zero d lt h = absurd (omega arith)
pairs_cons R x xs first pairs zero (suc j) d lt h = first j d (omega arith)
pairs_cons R x xs first pairs (suc i) zero d lt h = absurd (omega arith)
pairs_cons R x xs first pairs (suc i) (suc j) d lt h = pairs i j d (omega arith) (omega arith)

-- times that never fall are none before the start, where the first isn't
pub started_from : (events : List Entry) (start : ℕ) → BeginsInTime start events
    → AllPairs (λ a b. a.time ≤ b.time) events
    → All (λ event. start ≤ event.time) events
started_from [] start first in_order k d h = absurd (omega arith)
started_from (event ∷ after) start first in_order zero d h = first
started_from (event ∷ after) start first in_order (suc k) d h =
    let later : event.time ≤ (get_or after k d).time = in_order 0 (suc k) d (omega arith) h in
    omega (arith, first, later)

-- a list falls into what stands before an index, the element there and what stands behind it
pub split_at : {X : Type 0} (xs : List X) (i : ℕ) (x : X) → i < length xs → x ≡ get_or xs i x
    → xs ≡ take i xs ++ x ∷ drop (i + 1) xs
split_at xs i x h e =
    sym (take-append-drop i xs) ∙ ap (λ rest. take i xs ++ rest) (drop_more xs i x h
    ∙ ap (λ y. y ∷ drop (i + 1) xs) (sym e))

-- numbers that rise from each to every later one rise from each to the next
pub increasing_from_pairs : {X : Type 0} (f : X → ℕ) (xs : List X) → AllPairs (λ a b. f a < f b) xs
    → IsStrictlyIncreasing (map f xs)
increasing_from_pairs f [] pairs k h = absurd (omega arith)
increasing_from_pairs f (x ∷ xs) pairs k h =
    let size = length-map (x ∷ xs) f in
    let has : k + 1 < length (x ∷ xs) = omega (arith, size, h) in
    let first = get_or-map f (x ∷ xs) k x 0 (omega arith) in
    let second = get_or-map f (x ∷ xs) (k + 1) x 0 has in
    let rise = pairs k (k + 1) x (omega arith) has in
    omega (arith, first, second, rise)
