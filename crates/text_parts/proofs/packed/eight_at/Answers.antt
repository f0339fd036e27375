-- The digits end where the lowest bit is set; what stands behind them moves out of the word.
use Rattle.std.proofs.Common.{◌≡◌, ℕ, ◌*◌, ◌-◌, ◌%◌, ◌^◌, ◌<◌, map, take, get_or, refl, sym, ap, subst, ◌∙◌, arith}
use Rattle.std.specs.Simd.Lanes.{number_l}
use lib.Count.{count_trailing_zeros}
use Rattle.text_parts.specs.Packed.{less_zero, Joins}
use Rattle.text_parts.proofs.FrontValues.{value_in_front}
use Rattle.text_parts.proofs.FrontMasks.{mask_of, all_digits, FirstOther, first_other}
use Rattle.text_parts.proofs.packed.eight_at.Goals as goal

pub returns-then-others-eq0 : goal.returns-then-others-eq0
returns-then-others-eq0 c =
    let text = c.args.text.now in
    let mask = c.others-others.result in
    let fits : (k : ℕ) → get_or text k 0 < 256 = λ k. (c.type_inv.text k).fits in
    let is = mask_of text c.digits_in-digits.result mask c.digits_in-digits.ensures c.others-others.ensures in
    let all = all_digits text mask c.requires fits is c.if-others-eq0.true in
    let word : c.word_of.result ≡ number_l 256 (map less_zero (take 8 text)) =
    c.word_of.ensures ∙ ap (number_l 256) c.digits_in-digits.ensures in
    let whole : number_l 256 (map less_zero (take 8 text)) * 2 ^ (64 - 8 * 8) % 18446744073709551616
    ≡ c.word_of.result =
    omega (arith, word, c.word_of.type_inv) in
    record {
      few = omega arith;
      passed = all;
      stops = λ lt. absurd (omega arith);
      value_is = value_in_front 8 text c.joined.result c.requires (omega arith) (omega arith) all
          (subst (λ w. Joins w c.joined.result) (sym whole) c.joined.ensures);
    }

pub returns-then-count-eq0 : goal.returns-then-count-eq0
returns-then-count-eq0 c =
    let text = c.args.text.now in
    let mask = c.others-others.result in
    let fits : (k : ℕ) → get_or text k 0 < 256 = λ k. (c.type_inv.text k).fits in
    let is = mask_of text c.digits_in-digits.result mask c.digits_in-digits.ensures c.others-others.ensures in
    let first : FirstOther text mask c.requires fits is 0 =
    subst (FirstOther text mask c.requires fits is) c.if-count-eq0.true
    (first_other text mask c.requires fits is c.if-others-eq0.false) in
    record { few = omega arith; passed = first.passed; stops = first.stops; value_is = refl }

pub overflow_sub-count : goal.overflow_sub-count
overflow_sub-count c =
    let text = c.args.text.now in
    let mask = c.others-others.result in
    let fits : (k : ℕ) → get_or text k 0 < 256 = λ k. (c.type_inv.text k).fits in
    let is = mask_of text c.digits_in-digits.result mask c.digits_in-digits.ensures c.others-others.ensures in
    let first = first_other text mask c.requires fits is c.if-others-eq0.false in
    omega (arith, first.few)

pub returns : goal.returns
returns c =
    let text = c.args.text.now in
    let mask = c.others-others.result in
    let count = count_trailing_zeros 64 mask in
    let fits : (k : ℕ) → get_or text k 0 < 256 = λ k. (c.type_inv.text k).fits in
    let is = mask_of text c.digits_in-digits.result mask c.digits_in-digits.ensures c.others-others.ensures in
    let first = first_other text mask c.requires fits is c.if-others-eq0.false in
    let word : c.word_of-2.result ≡ number_l 256 (map less_zero (take 8 text)) =
    c.word_of-2.ensures ∙ ap (number_l 256) c.digits_in-digits.ensures in
    record {
      few = first.few;
      passed = first.passed;
      stops = first.stops;
      value_is = value_in_front count text c.joined-2.result c.requires (omega (arith, c.if-count-eq0.false)) first.few
          first.passed (subst (λ w. Joins (w * 2 ^ (64 - 8 * count) % 18446744073709551616) c.joined-2.result) word
          c.joined-2.ensures);
    }
