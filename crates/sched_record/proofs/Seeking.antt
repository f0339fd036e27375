-- What stands on lines that rise: all before one that stands above a line stands above it too.
use Rattle.std.proofs.Common.{ℕ, ◌-◌, ◌<◌, ◌≤◌, List, length, get_or, ap, inl, inr, arith}
use Rattle.std.specs.List.{AllPairs}
use Rattle.std.proofs.lemmas.Bool.{cases_order}
use Rattle.std.proofs.lemmas.List.{get_or_default}

pub above_hint : {X : Type 0} (f : X → ℕ) (items : List X) (hint line : ℕ) (e : X) → AllPairs (λ a b. f a < f b) items
    → hint ≤ length items
    → f (get_or items (hint - 1) e) < line → (k : ℕ) (d : X) → k < hint → f (get_or items k d) < line
above_hint {X} f items hint line e rise within here k d lt =
    let same = ap f (get_or_default items (hint - 1) e d (omega arith)) in
    elim (cases_order k (hint - 1)) [
      | inl last ↦ (let at = ap (λ i. f (get_or items i d)) last in omega (arith, here, same, at))
      | inr apart ↦ elim apart [
        | inl before ↦ (let at = rise k (hint - 1) d before (omega arith) in omega (arith, here, same, at))
        | inr behind ↦ absurd (omega arith)
      ]
    ]
