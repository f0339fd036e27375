-- The last element of a list, by its place and by recursion.
use Rattle.std.proofs.Common.{◌≡◌, ◌-◌, List, [], ◌∷◌, ◌++◌, length, Option, Some, None, refl, sub-one}
use Rattle.std.specs.Prelude.{slice_get}
use Rattle.std.specs.List.{last_or}

pub last_at_end : {A : Type 0} (o : Option A) (x : A) (xs : List A)
    → slice_get (x ∷ xs) (length xs) ≡ last_or o (x ∷ xs)
last_at_end o x [] = refl
last_at_end o x (y ∷ ys) = last_at_end (Some x) y ys

pub last_is : {A : Type 0} (xs : List A) → slice_get xs (length xs - 1) ≡ last_or None xs
last_is [] = refl
last_is (x ∷ xs) = rw sub-one (last_at_end None x xs)

pub last_or-push : {A : Type 0} (o : Option A) (xs : List A) (y : A) → last_or o (xs ++ y ∷ []) ≡ Some y
last_or-push o [] y = refl
last_or-push o (x ∷ xs) y = last_or-push (Some x) xs y
