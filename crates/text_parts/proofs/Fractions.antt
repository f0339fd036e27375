-- A time is its whole seconds and then a fraction; and a fraction of six digits.
use Rattle.std.proofs.Common.{◌≡◌, ℕ, ◌*◌, ◌^◌, ◌<◌, ◌≤◌, List, length, take, drop}
use Rattle.std.proofs.Common.{min, Option, Some, None, refl, sym, ap, ◌∙◌, arith, codes}
use Rattle.std.specs.List.{prefix_len}
use Rattle.text_parts.specs.Numerals.{is_digit, value_of, many}
use Rattle.text_parts.specs.Reading.{◌>>=◌, after_text, front_value, nanoseconds_of, numeral_at, fraction_at, time_at}
use Rattle.text_parts.specs.Packed.{BeginsWithDigits}
use Rattle.text_parts.proofs.LongFronts.{few_below, short_front}

-- whole seconds in front of a fraction
abbrev pub with_seconds : ℕ → ℕ × List ℕ → Option (ℕ × ℕ × List ℕ)
with_seconds seconds x = Some (seconds, x.0, x.1)

abbrev at_once : ℕ → List ℕ → ℕ → Option (ℕ × ℕ × List ℕ)
at_once seconds rest n = Some (seconds, n, rest)

abbrev alone : List ℕ → ℕ → Option (ℕ × List ℕ)
alone rest n = Some (n, rest)

abbrev read_of : List ℕ → Option ℕ
read_of f = nanoseconds_of (prefix_len is_digit f) (front_value f)

abbrev left_of : List ℕ → List ℕ
left_of f = drop (prefix_len is_digit f) f

behind_whole : (seconds : ℕ) (nanoseconds : Option ℕ) (rest : List ℕ)
    → (nanoseconds >>= at_once seconds rest) ≡ ((nanoseconds >>= alone rest) >>= with_seconds seconds)
behind_whole seconds None rest = refl
behind_whole seconds (Some n) rest = refl

behind_point : (seconds : ℕ) (fraction : Option (List ℕ))
    → (fraction >>= λ f. read_of f >>= at_once seconds (left_of f))
    ≡ ((fraction >>= λ f. read_of f >>= alone (left_of f)) >>= with_seconds seconds)
behind_point seconds None = refl
behind_point seconds (Some f) = behind_whole seconds (read_of f) (left_of f)

-- a time whose seconds are read
pub time_by_fraction : (text : List ℕ) (seconds : ℕ) (rest : List ℕ) → numeral_at text ≡ Some (seconds, rest)
    → time_at text ≡ (fraction_at rest >>= with_seconds seconds)
unfolding time_at fraction_at
time_by_fraction text seconds rest e = rw e (behind_point seconds (after_text (codes ".") rest))

pub time_stands : (text : List ℕ) (seconds nanoseconds : ℕ) (rest left : List ℕ)
    → numeral_at text ≡ Some (seconds, rest) → fraction_at rest ≡ Some (nanoseconds, left)
    → time_at text ≡ Some (seconds, nanoseconds, left)
time_stands text seconds nanoseconds rest left whole fraction =
    time_by_fraction text seconds rest whole ∙ ap (λ x. x >>= with_seconds seconds) fraction

pub no_time_without_fraction : (text : List ℕ) (seconds : ℕ) (rest : List ℕ) → numeral_at text ≡ Some (seconds, rest)
    → fraction_at rest ≡ None → time_at text ≡ None
no_time_without_fraction text seconds rest whole fraction =
    time_by_fraction text seconds rest whole ∙ ap (λ x. x >>= with_seconds seconds) fraction

pub no_time_without_seconds : (text : List ℕ) → numeral_at text ≡ None → time_at text ≡ None
unfolding time_at
no_time_without_seconds text e = rw e refl

-- six digits behind the point
pub micro_below : (fraction : List ℕ) (value : ℕ) → 8 ≤ length fraction → BeginsWithDigits fraction 6 value
    → value < 10 ^ 6
micro_below fraction value long begins =
    let few = few_below fraction 6 (omega (arith, long)) (omega arith) begins.passed in
    let is = begins.value_is in omega (arith, few, is)

pub micro_fraction : (text fraction : List ℕ) (value : ℕ) → after_text (codes ".") text ≡ Some fraction
    → 8 ≤ length fraction → BeginsWithDigits fraction 6 value
    → fraction_at text ≡ Some (value * 1000, drop 6 fraction)
unfolding fraction_at nanoseconds_of
micro_fraction text fraction value point long begins =
    let front = short_front fraction 6 value long (omega arith) begins in
    let below = micro_below fraction value long begins in
    let is : min (value_of (take 6 fraction)) many ≡ value = (let v = begins.value_is in omega (arith, v, below)) in
    rw (point, sym front.count_is) (ap (λ n. Some (n * 1000, drop 6 fraction)) is)
