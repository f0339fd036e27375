-- Lists that rise by a key, and lists in which no element passes a test.
use Rattle.std.proofs.Common.{◌≡◌, ℕ, ◌-◌, ◌<◌, Bool, false, List, [], ◌∷◌, ◌++◌, length, get_or, Some, None, sym, ◌∙◌}
use Rattle.std.proofs.Common.{inl, inr, arith}
use Rattle.std.specs.Prelude.{All, AllPairs}
use Rattle.std.specs.List.{last_or, list_any}
use Rattle.std.proofs.lemmas.Bool.{cases_lt, or_parts}
use Rattle.std.proofs.lemmas.Option.{slice_get-get_or}
use Rattle.std.proofs.lemmas.List.Elements.{All-nil, All-cons}
use Rattle.std.proofs.lemmas.List.Quantifiers.{all_pairs_push}
use Rattle.companion_file.proofs.Lasts.{last_is}

-- one more element, which may follow the last one
pub follows_push : {A : Type 0} (R : A → A → Type 0) (xs : List A) (y : A) → ((a b c : A) → R a b → R b c → R a c)
    → AllPairs R xs → ((l : A) → last_or None xs ≡ Some l → R l y) → AllPairs R (xs ++ y ∷ [])
follows_push R xs y trans pairs above =
    all_pairs_push R xs y pairs
    (λ k d within.
    let at_end : length xs - 1 < length xs = omega arith in
    let last = get_or xs (length xs - 1) d in
    let is_last : last_or None xs ≡ Some last = sym (last_is xs) ∙ slice_get-get_or xs (length xs - 1) d at_end in
    elim (cases_lt k (length xs - 1)) [
      | inl before ↦ trans (get_or xs k d) last y (pairs k (length xs - 1) d before at_end) (above last is_last)
      | inr end ↦
          let place : k ≡ length xs - 1 = omega arith in
          rw place (above last is_last)
    ])

-- the same by a key
pub rises_push : {A : Type 0} (key : A → ℕ) (xs : List A) (y : A) → AllPairs (λ a b. key a < key b) xs
    → ((l : A) → last_or None xs ≡ Some l → key l < key y) → AllPairs (λ a b. key a < key b) (xs ++ y ∷ [])
rises_push key xs y rises above = follows_push (λ a b. key a < key b) xs y
    (λ a b c before after. omega (arith, before, after)) rises above

pub none_passes : {A : Type 0} (p : A → Bool) (xs : List A) → list_any p xs ≡ false → All (λ x. p x ≡ false) xs
none_passes p [] e = All-nil (λ x. p x ≡ false)
none_passes p (x ∷ xs) e =
    let parts = or_parts (p x) (list_any p xs) e in
    All-cons (λ x. p x ≡ false) x xs parts.0 (none_passes p xs parts.1)
