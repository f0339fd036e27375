-- More than eight digits in front: what the first eight are worth, and those behind them.
use Rattle.std.proofs.Common.{◌≡◌, ℕ, zero, suc, ◌+◌, ◌*◌, ◌-◌, ◌^◌, ◌<◌, ◌≤◌, min, true, false, List, [], ◌∷◌}
use Rattle.std.proofs.Common.{length, take, drop, get_or, refl, sym, ap, subst, ◌∙◌, arith, add-one, pow-suc, inl, inr}
use Rattle.std.specs.List.{prefix_len, take_while}
use Rattle.std.proofs.Math.Nat.{pow-le-pow_right, mul_assoc}
use Rattle.std.proofs.lemmas.Bool.{cases_lt}
use Rattle.std.proofs.lemmas.List.{get_or-drop, length-drop}
use Rattle.text_parts.specs.Numerals.{is_digit, value_of, many}
use Rattle.text_parts.specs.Packed.{BeginsWithDigits}
use Rattle.text_parts.proofs.Digits.{EndsAt, digits_end, plain_more, plain_value, value_of_more}

abbrev pub powers : List ℕ
powers = 1 ∷ 10 ∷ 100 ∷ 1000 ∷ 10000 ∷ 100000 ∷ 1000000 ∷ 10000000 ∷ []

pub tens : (count : ℕ) → count < 8 → get_or powers count 0 ≡ 10 ^ count
tens zero few = refl
tens (suc zero) few = refl
tens (suc (suc zero)) few = refl
tens (suc (suc (suc zero))) few = refl
tens (suc (suc (suc (suc zero)))) few = refl
tens (suc (suc (suc (suc (suc zero))))) few = refl
tens (suc (suc (suc (suc (suc (suc zero)))))) few = refl
tens (suc (suc (suc (suc (suc (suc (suc zero))))))) few = refl
tens (suc (suc (suc (suc (suc (suc (suc (suc count)))))))) few = absurd (omega arith)

-- few digits have a small value
pub few_below : (s : List ℕ) (k : ℕ) → k ≤ length s → k ≤ 18
    → ((i : ℕ) → i < k → is_digit (get_or s i 0) ≡ true) → value_of (take k s) < 10 ^ k
few_below s zero le few passed = omega arith
few_below s (suc k) le few passed =
    let so_far = few_below s k (omega arith) (omega arith) (λ i lt. passed i (omega arith)) in
    let more = plain_more s k (value_of (take k s)) (omega arith) (omega arith) (passed k (omega arith)) refl so_far in
    let next : k + 1 ≡ suc k = omega arith in
    subst (λ n. value_of (take n s) < 10 ^ n) next (omega (arith, more.value_is, more.below))

-- digits before others are worth as much as the others' number tells
parts_value : (s : List ℕ) (front k : ℕ) → front + k ≤ length s →
    value_of (take (front + k) s) ≡ value_of (take front s) * 10 ^ k + value_of (take k (drop front s))
parts_value s front zero le = (let same : front + 0 ≡ front = omega arith in rw same (omega arith))
parts_value s front (suc k) le =
    let before = parts_value s front k (omega arith) in
    let up : front + suc k ≡ front + k + 1 = omega arith in
    let one : suc k ≡ k + 1 = omega arith in
    let whole = value_of_more s (front + k) (omega arith) in
    let later = value_of_more (drop front s) k (omega (arith, length-drop front s)) in
    let same = get_or-drop front s k 0 in
    let power : value_of (take front s) * 10 ^ (k + 1) ≡ value_of (take front s) * 10 ^ k * 10 =
    ap (λ n. value_of (take front s) * n) (ap (λ n. 10 ^ n) (add-one k) ∙ pow-suc 10 k)
    ∙ sym (mul_assoc (value_of (take front s)) (10 ^ k) 10) in
    rw (up, one) (omega (arith, before, whole, later, same, power))

-- how many digits there are, and what their value is
pub record Front (text : List ℕ) (count value : ℕ) : Type 0 where
  pub count_is : count ≡ prefix_len is_digit text
  pub value_is : value ≡ min (value_of (take_while is_digit text)) many
  pub below : value < 10 ^ 18

pub front_of : (text : List ℕ) (count value : ℕ) → count ≤ length text → count ≤ 18
    → ((k : ℕ) → k < count → is_digit (get_or text k 0) ≡ true)
    → (count < length text → is_digit (get_or text count 0) ≡ false) → value ≡ value_of (take count text)
    → Front text count value
front_of text count value le few passed stops is =
    let ends : EndsAt text count = digits_end text count le passed stops in
    let below : value < 10 ^ count = omega (arith, is, few_below text count le few passed) in
    let most : 10 ^ count ≤ 10 ^ 18 = pow-le-pow_right {n = 10} (omega arith) {i = count} {j = 18} few in
    record {
      count_is = ends.length_is;
      value_is = plain_value text count value few is below ∙ ap (λ s. min (value_of s) many) ends.front_is;
      below = omega (arith, below, most);
    }

pub short_front : (text : List ℕ) (count value : ℕ) → 8 ≤ length text → count < 8 → BeginsWithDigits text count value
    → Front text count value
short_front text count value le few begins =
    front_of text count value (omega arith) (omega arith) begins.passed (λ lt. begins.stops few) begins.value_is

pub long_front : (text : List ℕ) (front more value ten : ℕ) → 16 ≤ length text → BeginsWithDigits text 8 front
    → BeginsWithDigits (drop 8 text) more value → more < 8 → ten ≡ 10 ^ more
    → Front text (8 + more) (front * ten + value)
long_front text front more value ten le begins later few ten_is =
    front_of text (8 + more) (front * ten + value) (omega arith) (omega arith) passed stops value_is
  where
    passed : (k : ℕ) → k < 8 + more → is_digit (get_or text k 0) ≡ true
    passed k lt =
        elim (cases_lt k 8) [
          | inl first ↦ begins.passed k first
          | inr behind ↦
              let at : 8 + (k - 8) ≡ k = omega (arith, behind) in
              subst (λ n. is_digit (get_or text n 0) ≡ true) at
              (subst (λ b. is_digit b ≡ true) (get_or-drop 8 text (k - 8) 0)
              (later.passed (k - 8) (omega (arith, behind))))
        ]

    stops : 8 + more < length text → is_digit (get_or text (8 + more) 0) ≡ false
    stops lt = subst (λ b. is_digit b ≡ false) (get_or-drop 8 text more 0) (later.stops few)

    value_is : front * ten + value ≡ value_of (take (8 + more) text)
    value_is =
        let whole = parts_value text 8 more (omega arith) in
        rw (ten_is, begins.value_is, later.value_is) (sym whole)
