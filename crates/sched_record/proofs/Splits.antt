-- Two ways to cut one list at an element: at one index they are the same, and the later one's front has the earlier
-- cut.
use Rattle.std.proofs.Common.{◌≡◌, suc, ◌+◌, ◌<◌, List, [], ◌∷◌, ◌++◌, length, get_or, inl, inr, refl, sym, ap, ◌∙◌}
use Rattle.std.proofs.Common.{subst, arith}
use Rattle.std.specs.Prelude.{All}
use Rattle.std.specs.List.{AllPairs}
use Rattle.std.proofs.lemmas.Bool.{cases_order}
use Rattle.std.proofs.lemmas.List.{get_or_at, get_or-append-add, length-append}
use Rattle.std.proofs.lemmas.List.Elements.{All-get_or}

pub same_cut : {X : Type 0} (xs ys : List X) (a b : X) (p q : List X) → xs ++ a ∷ p ≡ ys ++ b ∷ q
    → length xs ≡ length ys
    → (xs ≡ ys) × (a ≡ b)
same_cut [] [] a b p q e h = (refl, cc)
same_cut [] (y ∷ ys) a b p q e h = absurd (omega arith)
same_cut (x ∷ xs) [] a b p q e h = absurd (omega arith)
same_cut (x ∷ xs) (y ∷ ys) a b p q e h =
    let tail : xs ++ a ∷ p ≡ ys ++ b ∷ q = cc in
    let head : x ≡ y = cc in
    let rest = same_cut xs ys a b p q tail (omega arith) in
    (cc, rest.1)

pub later_cut : {X : Type 0} (xs ys : List X) (a b : X) (p q : List X) → xs ++ a ∷ p ≡ ys ++ b ∷ q
    → length xs < length ys
    → (more : List X) × (ys ≡ xs ++ a ∷ more)
later_cut xs [] a b p q e h = absurd (omega arith)
later_cut [] (y ∷ ys) a b p q e h = (ys, cc)
later_cut (x ∷ xs) (y ∷ ys) a b p q e h =
    let tail : xs ++ a ∷ p ≡ ys ++ b ∷ q = cc in
    let head : x ≡ y = cc in
    let rest = later_cut xs ys a b p q tail (omega arith) in
    (rest.0, let rest_is = rest.1 in cc)

-- what holds of all holds at the cut
pub all_at_cut : {X : Type 0} (P : X → Type 0) (xs before : List X) (a : X) (after : List X) → xs ≡ before ++ a ∷ after
    → All P xs → P a
all_at_cut P xs before a after parts all =
    let index : length before < length xs = omega (arith, ap length parts, length-append before (a ∷ after)) in
    let at : get_or xs (length before) a ≡ a = ap (λ ys. get_or ys (length before) a) parts
    ∙ get_or_at before a after a (length before) refl in
    subst P at (All-get_or P xs (length before) a index all)

-- the first element that isn't so is one
pub one_first_split : {X : Type 0} (P : X → Type 0) (xs before before' : List X) (a b : X) (after after' : List X)
    → xs ≡ before ++ a ∷ after → xs ≡ before' ++ b ∷ after' → All P before → All P before' → ¬ P a → ¬ P b → a ≡ b
one_first_split P xs before before' a b after after' parts parts' so so' not_a not_b =
    let both : before ++ a ∷ after ≡ before' ++ b ∷ after' = sym parts ∙ parts' in
    elim (cases_order (length before) (length before')) [
      | inl same ↦ (same_cut before before' a b after after' both same).1
      | inr apart ↦ elim apart [
        | inl less ↦ (
            let cut = later_cut before before' a b after after' both less in
            absurd (not_a (all_at_cut P before' before a cut.0 cut.1 so')))
        | inr more ↦ (
            let cut = later_cut before' before b a after' after (sym both) more in
            absurd (not_b (all_at_cut P before before' b cut.0 cut.1 so)))
      ]
    ]

-- of elements in an order, one and the next stand in it
pub next_in_order : {X : Type 0} (R : X → X → Type 0) (xs : List X) (x y : X) (ys : List X)
    → AllPairs R (xs ++ x ∷ y ∷ ys) → R x y
next_in_order R xs x y ys pairs =
    let all = xs ++ x ∷ y ∷ ys in
    let n = length xs in
    let first : get_or all (n + 0) x ≡ x = get_or-append-add xs (x ∷ y ∷ ys) 0 x in
    let second : get_or all (n + 1) x ≡ y = get_or-append-add xs (x ∷ y ∷ ys) 1 x in
    let size : length all ≡ n + suc (suc (length ys)) = length-append xs (x ∷ y ∷ ys) in
    let here : R (get_or all (n + 0) x) (get_or all (n + 1) x) =
    pairs (n + 0) (n + 1) x (omega arith) (omega (arith, size)) in
    subst (λ b. R x b) second (subst (λ a. R a (get_or all (n + 1) x)) first here)
