-- What several threads made of the pieces of a text, each a result, gathered into one result.
use Rattle.std.proofs.Common.{◌≡◌, List, [], ◌∷◌, map, Result, Ok, Err, Vec, IfOk, MatchResult, Contains, subst}
use Rattle.std.specs.List.{AllZip}

-- where each is so, if it is `Ok`, and all are, the values are so
ok_each : {X Y : Type 0} (E : Type 0) (R : X → Y → Type 0) (xs : List X) (ys : List Y)
    → AllZip (λ x (r : Result Y E). IfOk r (R x)) xs (map Ok ys) → AllZip R xs ys
ok_each E R [] [] all = tt
ok_each E R [] (y ∷ ys) all = absurd all
ok_each E R (x ∷ xs) [] all = absurd all
ok_each E R (x ∷ xs) (y ∷ ys) all = (all.0, ok_each E R xs ys all.1)

pub collected : {X Y E Z : Type 0} (R : X → Y → Type 0) (xs : List X) (rs : List (Result Y E))
    (all : Result (Vec Y Z) E)
    → MatchResult all (λ v. (ys : List Y) × (rs ≡ map Ok ys) × (v.items ≡ ys)) (λ e. Contains rs (Err e))
    → AllZip (λ x (r : Result Y E). IfOk r (R x)) xs rs → IfOk all (λ v. AllZip R xs v.items)
collected {E = E} R xs rs (Ok v) says each =
    rw says.2 (ok_each E R xs says.0 (subst (λ ls. AllZip (λ x (r : Result _ _). IfOk r (R x)) xs ls) says.1 each))
collected R xs rs (Err e) says each = tt
