-- A time at the front of a text: what was taken is a time, and a time that no digit follows is taken.
use Rattle.std.proofs.Common.{◌≡◌, ℕ, suc, ◌+◌, ◌*◌, ◌^◌, ◌-◌, ◌<◌, ◌≤◌, eqb, leb, List, [], ◌∷◌, ◌++◌, length, drop}
use Rattle.std.proofs.Common.{fold, min, Option, Some, None, refl, sym, ap, subst, ◌∙◌, inl, inr, arith, add-one}
use Rattle.std.proofs.Common.{pow-suc, zero-add, append_assoc, codes}
use Rattle.std.specs.Prelude.{IsTrue}
use Rattle.std.specs.List.{prefix_len, list_all, take_while}
use Rattle.std.proofs.lemmas.Bool.{cases_Bool, and_parts, leb-true, eqb-true}
use Rattle.std.proofs.lemmas.Option.{same_Some}
use Rattle.text_parts.specs.Numerals.{is_digit, value_of, many, IsNumeral}
use Rattle.text_parts.specs.Time.{IsFraction, IsTime}
use Rattle.text_parts.specs.Reading.{◌>>=◌, after_text, numeral_at, front_value, nanoseconds_of, fraction_at, time_at}
use Rattle.text_parts.proofs.Runs.{Stops, digits_in_front, numeral_again, numeral_taken, TakesNumeral, text_taken}
use Rattle.text_parts.proofs.Runs.{text_again, bind_some, bind_elim, run_passes, front_and_rest, length_front}

value_below_from : (k v : ℕ) (s : List ℕ) → v < 10 ^ k → IsTrue (list_all is_digit s) →
    fold (λ value digit. value * 10 + (digit - 48)) v s < 10 ^ (k + length s)
value_below_from k v [] lt all = omega (arith, ap (λ n. 10 ^ n) (let e : k + 0 ≡ k = omega arith in e))
value_below_from k v (b ∷ s) lt all =
    let p = and_parts (is_digit b) (list_all is_digit s) all in
    let digit : b ≤ 57 = leb-true b 57 (and_parts (leb 48 b) (leb b 57) p.0).1 in
    let power : 10 ^ (k + 1) ≡ 10 ^ k * 10 = ap (λ n. 10 ^ n) (add-one k) ∙ pow-suc 10 k in
    let later : fold (λ value digit. value * 10 + (digit - 48)) (v * 10 + (b - 48)) s < 10 ^ ((k + 1) + length s) =
    value_below_from (k + 1) (v * 10 + (b - 48)) s (omega (arith, power)) p.1 in
    let count : (k + 1) + length s ≡ k + suc (length s) = omega arith in
    subst (λ n. fold (λ value digit. value * 10 + (digit - 48)) (v * 10 + (b - 48)) s < 10 ^ n) count later

-- k digits stand for less than ten to the power k
pub value_below : (s : List ℕ) → IsTrue (list_all is_digit s) → value_of s < 10 ^ length s
value_below s all = rw (zero-add) at (value_below_from 0 0 s (omega arith) all)

fraction_nanoseconds : (digits : List ℕ) (nanoseconds : ℕ) → IsNumeral digits → IsFraction digits nanoseconds →
    nanoseconds_of (length digits) (min (value_of digits) many) ≡ Some nanoseconds
unfolding nanoseconds_of
fraction_nanoseconds digits nanoseconds numeral (inl six) =
    let below : value_of digits < 10 ^ 6 =
    subst (λ n. value_of digits < 10 ^ n) six.0 (value_below digits numeral.all) in
    let same : min (value_of digits) many ≡ value_of digits = omega arith in
    rw (six.0, same, six.1) refl
fraction_nanoseconds digits nanoseconds numeral (inr nine) =
    let below : value_of digits < 10 ^ 9 =
    subst (λ n. value_of digits < 10 ^ n) nine.0 (value_below digits numeral.all) in
    let same : min (value_of digits) many ≡ value_of digits = omega arith in
    rw (nine.0, same, nine.1) refl

is_fraction : (digits : List ℕ) (nanoseconds : ℕ) → IsTrue (list_all is_digit digits) →
    nanoseconds_of (length digits) (min (value_of digits) many) ≡ Some nanoseconds → IsFraction digits nanoseconds
unfolding nanoseconds_of
is_fraction digits nanoseconds all e =
    elim (cases_Bool (eqb (length digits) 6)) [
      | inl six ↦
          let six_of : length digits ≡ 6 = eqb-true (length digits) 6 six in
          let below : value_of digits < 10 ^ 6 =
          subst (λ n. value_of digits < 10 ^ n) six_of (value_below digits all) in
          let found : Some (min (value_of digits) many * 1000) ≡ Some nanoseconds = rw six at e in
          let same = same_Some (min (value_of digits) many * 1000) nanoseconds found in
          inl (six_of, omega arith)
      | inr other ↦
          elim (cases_Bool (eqb (length digits) 9)) [
            | inl nine ↦
                let nine_of : length digits ≡ 9 = eqb-true (length digits) 9 nine in
                let below : value_of digits < 10 ^ 9 =
                subst (λ n. value_of digits < 10 ^ n) nine_of (value_below digits all) in
                let found : Some (min (value_of digits) many) ≡ Some nanoseconds = rw (other, nine) at e in
                let same = same_Some (min (value_of digits) many) nanoseconds found in
                inr (nine_of, omega arith)
            | inr none ↦ let nothing : None ≡ Some nanoseconds = rw (other, none) at e in absurd cc
          ]
    ]

fraction_some : (digits : List ℕ) (nanoseconds : ℕ) → IsFraction digits nanoseconds → 0 < length digits
fraction_some digits nanoseconds (inl six) = omega (arith, six.0)
fraction_some digits nanoseconds (inr nine) = omega (arith, nine.0)

-- a time was taken from the front of s, and rest is left
pub record TakesTime (s : List ℕ) (seconds nanoseconds : ℕ) (rest : List ℕ) : Type 0 where
  pub time : List ℕ
  pub exact_seconds : ℕ
  pub form : IsTime time exact_seconds nanoseconds
  pub seconds_are : seconds ≡ min exact_seconds many
  pub whole : s ≡ time ++ rest

time_from : (s text fraction : List ℕ) (seconds nanoseconds : ℕ) → TakesNumeral s seconds text → text ≡ 46 ∷ fraction →
    nanoseconds_of (prefix_len is_digit fraction) (front_value fraction) ≡ Some nanoseconds →
    TakesTime s seconds nanoseconds (drop (prefix_len is_digit fraction) fraction)
time_from s text fraction seconds nanoseconds w point found =
    let digits = take_while is_digit fraction in
    let rest = drop (prefix_len is_digit fraction) fraction in
    let found_there : nanoseconds_of (length digits) (min (value_of digits) many) ≡ Some nanoseconds =
    rw (length_front is_digit fraction) found in
    let form : IsFraction digits nanoseconds =
    is_fraction digits nanoseconds (run_passes is_digit fraction) found_there in
    let some : 0 < length digits = fraction_some digits nanoseconds form in
    let whole_digits = take_while is_digit s in
    record {
      time = whole_digits ++ (46 ∷ digits);
      exact_seconds = value_of whole_digits;
      form = record {
        whole_digits = whole_digits;
        whole_numeral = w.digits_form;
        whole_value = refl;
        fraction_digits = digits;
        fraction_numeral = record { some = some; all = run_passes is_digit fraction };
        fraction_value = form;
        whole = refl;
      };
      seconds_are = w.value_is;
      whole = w.whole ∙ ap (λ (t : List ℕ). whole_digits ++ t) (point
          ∙ ap (λ (t : List ℕ). 46 ∷ t) (front_and_rest is_digit fraction))
          ∙ sym (append_assoc whole_digits (46 ∷ digits) rest);
    }

-- a point and digits were taken from the front of s, and rest is left
pub record TakesFraction (s : List ℕ) (nanoseconds : ℕ) (rest : List ℕ) : Type 0 where
  pub digits : List ℕ
  pub numeral : IsNumeral digits
  pub value : IsFraction digits nanoseconds
  pub whole : s ≡ 46 ∷ (digits ++ rest)

fraction_from : (s digits : List ℕ) (nanoseconds : ℕ) → s ≡ 46 ∷ digits →
    nanoseconds_of (prefix_len is_digit digits) (front_value digits) ≡ Some nanoseconds →
    TakesFraction s nanoseconds (drop (prefix_len is_digit digits) digits)
fraction_from s digits nanoseconds point found =
    let there : nanoseconds_of (length (take_while is_digit digits)) (min (value_of (take_while is_digit digits)) many)
    ≡ Some nanoseconds = rw (length_front is_digit digits) found in
    let form : IsFraction (take_while is_digit digits) nanoseconds =
    is_fraction (take_while is_digit digits) nanoseconds (run_passes is_digit digits) there in
    record {
      digits = take_while is_digit digits;
      numeral = record {
        some = fraction_some (take_while is_digit digits) nanoseconds form;
        all = run_passes is_digit digits;
      };
      value = form;
      whole = point ∙ ap (λ (t : List ℕ). 46 ∷ t) (front_and_rest is_digit digits);
    }

pub fraction_taken : (s : List ℕ) (nanoseconds : ℕ) (rest : List ℕ) → fraction_at s ≡ Some (nanoseconds, rest)
    → TakesFraction s nanoseconds rest
unfolding fraction_at
fraction_taken s nanoseconds rest e =
    bind_elim (after_text (codes ".") s) _ (nanoseconds, rest) e (λ digits point e.
    bind_elim (nanoseconds_of (prefix_len is_digit digits) (front_value digits)) _ (nanoseconds, rest) e (λ n found e.
    subst (λ (x : ℕ × List ℕ). TakesFraction s x.0 x.1)
    (same_Some (n, drop (prefix_len is_digit digits) digits) (nanoseconds, rest) e)
    (fraction_from s digits n (text_taken (codes ".") s digits point) found)))

-- what is left to do behind the point, and behind the seconds
abbrev with_fraction : ℕ → List ℕ → ℕ → Option (ℕ × ℕ × List ℕ)
with_fraction whole fraction nanoseconds = Some (whole, nanoseconds, drop (prefix_len is_digit fraction) fraction)

abbrev behind_point : ℕ → List ℕ → Option (ℕ × ℕ × List ℕ)
behind_point whole fraction = nanoseconds_of (prefix_len is_digit fraction)
    (front_value fraction) >>= with_fraction whole fraction

abbrev behind_seconds : ℕ × List ℕ → Option (ℕ × ℕ × List ℕ)
behind_seconds whole = after_text (codes ".") whole.1 >>= behind_point whole.0

time_behind_point : (s text fraction : List ℕ) (whole seconds nanoseconds : ℕ) (rest : List ℕ) →
    TakesNumeral s whole text → text ≡ 46 ∷ fraction →
    behind_point whole fraction ≡ Some (seconds, nanoseconds, rest) → TakesTime s seconds nanoseconds rest
time_behind_point s text fraction whole seconds nanoseconds rest w point e =
    let n =
    bind_some (nanoseconds_of (prefix_len is_digit fraction) (front_value fraction)) (with_fraction whole fraction)
    (seconds, nanoseconds, rest) e in
    subst (λ (t : ℕ × ℕ × List ℕ). TakesTime s t.0 t.1 t.2)
    (same_Some (whole, n.0, drop (prefix_len is_digit fraction) fraction) (seconds, nanoseconds, rest) n.2)
    (time_from s text fraction whole n.0 w point n.1)

time_behind_seconds : (s : List ℕ) (whole : ℕ) (text : List ℕ) (seconds nanoseconds : ℕ) (rest : List ℕ) →
    TakesNumeral s whole text → behind_seconds (whole, text) ≡ Some (seconds, nanoseconds, rest) →
    TakesTime s seconds nanoseconds rest
time_behind_seconds s whole text seconds nanoseconds rest w e =
    let p = bind_some (after_text (codes ".") text) (behind_point whole) (seconds, nanoseconds, rest) e in
    time_behind_point s text p.0 whole seconds nanoseconds rest w (text_taken (codes ".") text p.0 p.1) p.2

pub time_taken : (s : List ℕ) (seconds nanoseconds : ℕ) (rest : List ℕ) →
    time_at s ≡ Some (seconds, nanoseconds, rest) → TakesTime s seconds nanoseconds rest
unfolding time_at
time_taken s seconds nanoseconds rest e =
    let b = bind_some (numeral_at s) behind_seconds (seconds, nanoseconds, rest) e in
    time_behind_seconds s b.0.0 b.0.1 seconds nanoseconds rest (numeral_taken s b.0.0 b.0.1 b.1) b.2

pub time_again : (time : List ℕ) (seconds nanoseconds : ℕ) (rest : List ℕ) → IsTime time seconds nanoseconds →
    Stops is_digit rest → time_at (time ++ rest) ≡ Some (min seconds many, nanoseconds, rest)
unfolding time_at
time_again time seconds nanoseconds rest t stops =
    let regrouped : time ++ rest ≡ t.whole_digits ++ (46 ∷ (t.fraction_digits ++ rest)) =
    ap (λ (w : List ℕ). w ++ rest) t.whole ∙ append_assoc t.whole_digits (46 ∷ t.fraction_digits) rest in
    let fraction = digits_in_front t.fraction_digits rest t.fraction_numeral stops in
    rw (
      regrouped,
      numeral_again t.whole_digits (46 ∷ (t.fraction_digits ++ rest)) t.whole_numeral refl,
      text_again
          (codes ".") (t.fraction_digits ++ rest),
      fraction.value_is,
      fraction.rest_is,
      fraction.length_is,
      fraction_nanoseconds t.fraction_digits nanoseconds t.fraction_numeral t.fraction_value,
      t.whole_value,
    ) refl
