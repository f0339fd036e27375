-- An order from each element to every later one goes through a map and a filter.
use Rattle.std.proofs.Common.{◌≡◌, suc, List, [], ◌∷◌, map, Bool, true, false, cond, Some, refl, sym, ap, ◌∙◌, subst}
use Rattle.std.proofs.Common.{arith}
use Rattle.std.specs.Prelude.{All, filter, find}
use Rattle.std.specs.List.{AllPairs}
use Rattle.std.proofs.lemmas.Bool.{cond_both}
use Rattle.std.proofs.lemmas.List.Elements.{All-map, All-filter, All-head, All-tail}
use Rattle.sched_record.proofs.Rising.{pairs_cons}

pub pairs_head : {X : Type 0} (R : X → X → Type 0) (x : X) (xs : List X) → AllPairs R (x ∷ xs) → All (λ y. R x y) xs
pairs_head R x xs pairs k d h = pairs 0 (suc k) d (omega arith) (omega arith)

pub pairs_tail : {X : Type 0} (R : X → X → Type 0) (x : X) (xs : List X) → AllPairs R (x ∷ xs) → AllPairs R xs
pairs_tail R x xs pairs i j d lt h = pairs (suc i) (suc j) d (omega arith) (omega arith)

pub pairs_map : {X Y : Type 0} (R : Y → Y → Type 0) (f : X → Y) (xs : List X) → AllPairs (λ a b. R (f a) (f b)) xs
    → AllPairs R (map f xs)
pairs_map R f [] pairs = λ i j d lt h. absurd (omega arith)
pairs_map R f (x ∷ xs) pairs =
    pairs_cons R (f x) (map f xs) (All-map (λ y. R (f x) y) f xs (pairs_head (λ a b. R (f a) (f b)) x xs pairs))
    (pairs_map R f xs (pairs_tail (λ a b. R (f a) (f b)) x xs pairs))

pub pairs_filter : {X : Type 0} (R : X → X → Type 0) (p : X → Bool) (xs : List X) → AllPairs R xs
    → AllPairs R (filter p xs)
pairs_filter R p [] pairs = λ i j d lt h. absurd (omega arith)
pairs_filter R p (x ∷ xs) pairs =
    let rest = pairs_filter R p xs (pairs_tail R x xs pairs) in
    cond_both (p x) (x ∷ filter p xs) (filter p xs) (λ ys. AllPairs R ys)
    (λ _. pairs_cons R x (filter p xs) (All-filter p (λ y. R x y) xs (pairs_head R x xs pairs)) rest) (λ _. rest)

-- what a search finds passes the test, and has what all have
pub found_in : {X : Type 0} (P : X → Type 0) (p : X → Bool) (xs : List X) (x : X) → All P xs → find p xs ≡ Some x
    → (p x ≡ true) × P x
found_in P p [] x all e = absurd cc
found_in P p (y ∷ ys) x all e = here (p y) refl (found_in P p ys x (All-tail P y ys all))
  where
    here : (b : Bool) → p y ≡ b → (find p ys ≡ Some x → (p x ≡ true) × P x) → (p x ≡ true) × P x
    here true t later =
        let same : Some y ≡ Some x = sym (ap (λ b. cond b (Some y) (find p ys)) t) ∙ e in
        let is : y ≡ x = cc in
        (subst (λ z. p z ≡ true) is t, subst P is (All-head P y ys all))
    here false f later = later (sym (ap (λ b. cond b (Some y) (find p ys)) f) ∙ e)
