-- What is written in two steps.
use Rattle.std.proofs.Common.{ℕ, List, ◌≡◌, ◌∙◌, ◌++◌, ap}
use Rattle.std.proofs.lemmas.List.{append_assoc}

-- the second stands behind the first
pub behind : (a b c x y : List ℕ) → b ≡ a ++ x → c ≡ b ++ y → c ≡ a ++ (x ++ y)
behind a b c x y first second = second ∙ (ap (λ (t : List ℕ). t ++ y) first ∙ append_assoc a x y)
