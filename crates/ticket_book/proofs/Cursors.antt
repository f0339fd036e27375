-- A list that is compared with another, which comes item by item: while all were equal, what came is the first of it.
-- Once one differed, what came never is again, whatever comes.
use Rattle.std.proofs.Common.{◌≡◌, ◌≢◌, ℕ, ◌+◌, ◌<◌, List, [], ◌∷◌, ◌++◌, length, take, get_or, sym, ap, ◌∙◌, arith}
use Rattle.std.proofs.lemmas.List.{length_push, length-take, same_from_push, take_more}

-- what was pushed lies within the list, and is what stands there
record IsPushed {X : Type 0} (xs front : List X) (x : X) : Type 0 where
  front_is : front ≡ take (length front) xs
  last_is : x ≡ get_or xs (length front) x
  within : length front < length xs

pushed : {X : Type 0} (xs front : List X) (x : X) → front ++ x ∷ [] ≡ take (length (front ++ x ∷ [])) xs
    → IsPushed xs front x
pushed {X} xs front x e =
    let count = length_push front x in
    let cut = ap length e ∙ length-take (length (front ++ x ∷ [])) xs in
    let within : length front < length xs = omega (arith, count, cut) in
    let more = e ∙ ap (λ n. take n xs) count ∙ take_more xs (length front) x within in
    let parts = same_from_push front (take (length front) xs) x (get_or xs (length front) x) more in
    record { front_is = parts.0; last_is = parts.1; within = within }

-- one more that is equal
pub keeps_up : {X : Type 0} (xs front : List X) (index : ℕ) (x : X) → index ≡ length front → front ≡ take index xs
    → index < length xs → get_or xs index x ≡ x
    → (index + 1 ≡ length (front ++ x ∷ [])) × (front ++ x ∷ [] ≡ take (index + 1) xs)
keeps_up xs front index x count same within here =
    let pushed_count = length_push front x in (
      omega (arith, pushed_count),
      ap (λ ys. ys ++ x ∷ []) same ∙ ap (λ y. take index xs ++ y ∷ []) (sym here) ∙ sym (take_more xs index x within),
    )

-- one more, where one differed
pub stays_apart : {X : Type 0} (xs front : List X) (x : X) → front ≢ take (length front) xs
    → front ++ x ∷ [] ≢ take (length (front ++ x ∷ [])) xs
stays_apart xs front x apart e = apart (pushed xs front x e).front_is

-- one more that differs, or that the list hasn't
pub falls_apart : {X : Type 0} (xs front : List X) (index : ℕ) (x : X) → index ≡ length front
    → (index < length xs → get_or xs index x ≢ x) → front ++ x ∷ [] ≢ take (length (front ++ x ∷ [])) xs
falls_apart xs front index x count differs e =
    let there = pushed xs front x e in
    let within = there.within in
    differs (omega (arith, count, within)) (ap (λ n. get_or xs n x) count ∙ sym there.last_is)
