-- The digits end where a byte is none, or where the text does; where they are few, what was added up is their value.
use Rattle.std.proofs.Common.{◌≡◌, ◌<◌, ◌≤◌, true, false, get_or, length, min, sym, ap, ◌∙◌, arith, rules}
use Rattle.text_parts.specs.Numerals.{is_digit, value_of, many}
use Rattle.text_parts.proofs.Digits.{EndsAt, digits_end, plain_value, wrapped_more}
use Rattle.text_parts.proofs.numerals.further_digits.Goals as goal
use Rattle.text_parts.proofs.numerals.further_digits.Goals.{then-loop-digits-test+else-is_digit_byte}
use Rattle.text_parts.proofs.numerals.further_digits.Goals.{else-loop-digits-test}

pub loop-digits-preserved : goal.loop-digits-preserved
loop-digits-preserved c =
    let text = c.args.text.now in
    let k = c.loop-digits.digits in
    let i = c.loop-digits.invariant in
    let lt : k < length text = omega (arith, c.loop-digits-test.true) in
    let is : is_digit (get_or text k 0) ≡ true = sym c.is_digit_byte.ensures ∙ c.if-is_digit_byte.true in
    let more = wrapped_more text k c.loop-digits.value c.digit_of.result lt is (c.digit_of.ensures.digit is) i.value
    i.below in
    record {
      within = omega arith;
      passed = search rules;
      value = λ few. (more few).value_is;
      below = λ few. (more few).below;
    }

pub returns : goal.returns
returns c =
    let text = c.args.text.now in
    let k = c.loop-digits.digits in
    let i = c.loop-digits.invariant in
    let few : k ≤ 18 = omega (arith, c.if-digits-gt-PLAIN_DIGITS.false) in
    let stops : k < length text → is_digit (get_or text k 0) ≡ false =
    elim c.loop-digits-test.branch [
      | then-loop-digits-test+else-is_digit_byte w ↦ λ lt. sym w.is_digit_byte.ensures ∙ w.if-is_digit_byte.false
      | else-loop-digits-test w ↦ λ lt. absurd (omega (arith, w.loop-digits-test.false))
    ] in
    let ends : EndsAt text k = digits_end text k i.within i.passed stops in
    record {
      count = ends.length_is;
      within = i.within;
      value = plain_value text k c.loop-digits.value few (i.value few) (i.below few)
          ∙ ap (λ s. min (value_of s) many) ends.front_is;
      below = i.below few;
    }
