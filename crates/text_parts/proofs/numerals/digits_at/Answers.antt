-- The digits end where a byte is none; where they are few, what was added up is their value.
use Rattle.std.proofs.Common.{◌≡◌, ◌≤◌, true, get_or, length, min, ap, ◌∙◌, arith, rules}
use Rattle.text_parts.specs.Numerals.{is_digit, value_of, many}
use Rattle.text_parts.proofs.Digits.{EndsAt, digits_end, plain_value, wrapped_more}
use Rattle.text_parts.proofs.numerals.digits_at.Goals as goal

pub loop-digits-preserved : goal.loop-digits-preserved
loop-digits-preserved c =
    let text = c.args.text.now in
    let k = c.loop-digits.digits in
    let i = c.loop-digits.invariant in
    let is : is_digit (get_or text k 0) ≡ true =
    c.digit_of-digit.ensures.other (omega (arith, c.if-digit-gt9.false)) in
    let more = wrapped_more text k c.loop-digits.value c.digit_of-digit.result
    (omega (arith, c.if-text-lt-FEW_DIGITS.false, c.loop-digits-test.true)) is (c.digit_of-digit.ensures.digit is)
    (λ few. i.value) (λ few. i.below) (omega (arith, c.loop-digits-test.true)) in
    record {
      few = omega (arith, c.loop-digits-test.true);
      passed = search rules;
      value = more.value_is;
      below = more.below;
    }

pub returns-then-digit-gt9 : goal.returns-then-digit-gt9
returns-then-digit-gt9 c =
    let text = c.args.text.now in
    let k = c.loop-digits.digits in
    let i = c.loop-digits.invariant in
    let le : k ≤ length text = omega (arith, c.if-text-lt-FEW_DIGITS.false, i.few) in
    let ends : EndsAt text k = digits_end text k le i.passed
    (λ lt. c.digit_of-digit.ensures.no_digit (omega (arith, c.if-digit-gt9.true))) in
    record {
      count = ends.length_is;
      within = le;
      value = plain_value text k c.loop-digits.value (omega (arith, i.few)) i.value i.below
          ∙ ap (λ s. min (value_of s) many) ends.front_is;
      below = i.below;
    }
