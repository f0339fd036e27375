-- The elements that a list begins with are no more than its length.
use Rattle.std.proofs.Common.{◌≤◌, Bool, List, length}
use Rattle.std.specs.List.{prefix_len}
use Rattle.std.proofs.lemmas.List.Sums.{prefix_len-le-length}

pub few_below : {X : Type 0} (p : X → Bool) (xs : List X) → prefix_len p xs ≤ length xs
few_below p xs = prefix_len-le-length p xs
