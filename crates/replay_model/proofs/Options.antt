-- What is there is one thing, and what is absent is not there.
use Rattle.std.proofs.Common.{◌≡◌, Option, Some, None, sym, ◌∙◌}

pub same_some : {A : Type 0} (o : Option A) (a b : A) → o ≡ Some a → o ≡ Some b → a ≡ b
same_some o a b e f = let k = sym e ∙ f in cc

pub no_some : {A P : Type 0} (a : A) → None ≡ Some a → P
no_some a e = absurd cc

pub some_no : {A P : Type 0} (a : A) → Some a ≡ None → P
some_no a e = absurd cc
