-- The first of the longest, where one more comes behind the others.
use Rattle.std.proofs.Common.{◌≡◌, ℕ, ◌<◌, ◌≤◌, Bool, true, false, cond, ltb, Option, Some, None, List, [], ◌∷◌, ◌++◌}
use Rattle.std.proofs.Common.{refl, sym, ap, ◌∙◌, arith}
use Rattle.std.proofs.lemmas.Bool.{lt-ltb, ltb-true, ltb-false}
use Rattle.waiting_times.specs.Waits.{first_longest, later, longer}

module _ {A : Type 0} (takes : A → ℕ) where
  longer_later : (a : A) (o : Option A) (w : A)
      → longer takes a (Some (later takes o w)) ≡ later takes (Some (longer takes a o)) w
  longer_later a None w = refl
  longer_later a (Some v) w =
      go (ltb (takes v) (takes w)) (ltb (takes a) (takes v)) (ltb (takes a) (takes w)) refl refl refl
    where
      go : (p q r : Bool) → ltb (takes v) (takes w) ≡ p → ltb (takes a) (takes v) ≡ q → ltb (takes a) (takes w) ≡ r
          → longer takes a (Some (later takes (Some v) w)) ≡ later takes (Some (longer takes a (Some v))) w
      go p q r e f g = grind (arith, e, f, g)

  pub longest_push : (xs : List A) (x : A)
      → first_longest takes (xs ++ x ∷ []) ≡ Some (later takes (first_longest takes xs) x)
  longest_push [] x = refl
  longest_push (y ∷ ys) x =
      ap (λ o. Some (longer takes y o)) (longest_push ys x) ∙ ap Some (longer_later y (first_longest takes ys) x)
