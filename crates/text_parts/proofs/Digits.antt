-- Values of digits, read from the left.
use Rattle.std.proofs.Common.{◌≡◌, ℕ, ◌+◌, ◌*◌, ◌^◌, ◌<◌, ◌≤◌, ◌-◌, ◌%◌, min, true, false, leb, List, length, get_or}
use Rattle.std.proofs.Common.{take, drop, refl, sym, ap, ◌∙◌, arith, add-one, pow-suc}
use Rattle.std.specs.List.{prefix_len, take_while}
use Rattle.std.proofs.Math.Nat.{pow-le-pow_right, mod-eq_of_lt}
use Rattle.std.proofs.lemmas.Bool.{and_parts, leb-true}
use Rattle.std.proofs.lemmas.List.Sums.{fold_more, prefix_len_is}
use Rattle.text_parts.specs.Numerals.{is_digit, value_of, many}

-- one more digit
pub value_of_more : (s : List ℕ) (i : ℕ) → i < length s →
    value_of (take (i + 1) s) ≡ value_of (take i s) * 10 + (get_or s i 0 - 48)
value_of_more s i lt = fold_more (λ value digit. value * 10 + (digit - 48)) 0 s i 0 lt

-- where digits end, and what stands before and behind that index
pub record EndsAt (s : List ℕ) (k : ℕ) : Type 0 where
  pub length_is : k ≡ prefix_len is_digit s
  pub front_is : take k s ≡ take_while is_digit s
  pub rest_is : drop k s ≡ drop (prefix_len is_digit s) s

pub digits_end : (s : List ℕ) (k : ℕ) → k ≤ length s → ((i : ℕ) → i < k → is_digit (get_or s i 0) ≡ true) →
    (k < length s → is_digit (get_or s k 0) ≡ false) → EndsAt s k
digits_end s k le passed stops =
    let e : prefix_len is_digit s ≡ k = prefix_len_is is_digit s k 0 le passed stops in
    record { length_is = sym e; front_is = rw e refl; rest_is = rw e refl }

-- one more digit where there are few: the value stays exact, and fits
pub record PlainMore (s : List ℕ) (i value : ℕ) : Type 0 where
  pub value_is : value * 10 + (get_or s i 0 - 48) ≡ value_of (take (i + 1) s)
  pub below : value * 10 + (get_or s i 0 - 48) < 10 ^ (i + 1)
  pub fits : value * 10 + (get_or s i 0 - 48) < 10 ^ 18

pub plain_more : (s : List ℕ) (i value : ℕ) → i < length s → i < 18 → is_digit (get_or s i 0) ≡ true
    → value ≡ value_of (take i s) → value < 10 ^ i → PlainMore s i value
plain_more s i value lt few digit so_far below =
    let power : 10 ^ (i + 1) ≡ 10 ^ i * 10 = ap (λ n. 10 ^ n) (add-one i) ∙ pow-suc 10 i in
    let nine : get_or s i 0 ≤ 57 = leb-true (get_or s i 0) 57
    (and_parts (leb 48 (get_or s i 0)) (leb (get_or s i 0) 57) digit).1 in
    let next : value * 10 + (get_or s i 0 - 48) < 10 ^ (i + 1) = omega (arith, power) in
    let most : 10 ^ (i + 1) ≤ 10 ^ 18 = pow-le-pow_right {n = 10} (omega arith) {i = i + 1} {j = 18} (omega arith) in
    record { value_is = omega (arith, value_of_more s i lt); below = next; fits = omega (arith, most) }

-- the value of few digits is below the bound
pub plain_value : (s : List ℕ) (k value : ℕ) → k ≤ 18 → value ≡ value_of (take k s) → value < 10 ^ k
    → value ≡ min (value_of (take k s)) many
plain_value s k value few so_far below =
    let most : 10 ^ k ≤ 10 ^ 18 = pow-le-pow_right {n = 10} (omega arith) {i = k} {j = 18} few in
    omega (arith, most)

-- the same where sums and products wrap: few digits never do
pub record WrappedMore (s : List ℕ) (i next : ℕ) : Type 0 where
  pub value_is : next ≡ value_of (take (i + 1) s)
  pub below : next < 10 ^ (i + 1)

pub wrapped_more : (s : List ℕ) (i value digit : ℕ) → i < length s → is_digit (get_or s i 0) ≡ true
    → digit ≡ get_or s i 0 - 48 →
    (i ≤ 18 → value ≡ value_of (take i s)) → (i ≤ 18 → value < 10 ^ i) → i + 1 ≤ 18 →
    WrappedMore s i ((value * 10 % 18446744073709551616 + digit) % 18446744073709551616)
wrapped_more s i value digit lt is digit_is so_far below few =
    let more : PlainMore s i value = plain_more s i value lt (omega arith) is (so_far (omega arith))
    (below (omega arith)) in
    let product : value * 10 % 18446744073709551616 ≡ value * 10 = mod-eq_of_lt (omega (arith, more.fits)) in
    let sum : (value * 10 + (get_or s i 0 - 48)) % 18446744073709551616 ≡ value * 10 + (get_or s i 0 - 48) =
    mod-eq_of_lt (omega (arith, more.fits)) in
    rw (product, digit_is, sum) (record { value_is = more.value_is; below = more.below })
