use Rattle.std.proofs.Common.{◌+◌, ◌-◌, take, drop, get_or, refl, ap, ◌∙◌, arith}
use Rattle.std.proofs.lemmas.List.{get_or-drop, take_rest}
use lib.Count.{count_trailing_zeros}
use Rattle.text_parts.specs.Numerals.{is_digit, value_of}
use Rattle.text_parts.proofs.Marked.{digits_end, long_there, numeral_there, short_there}
use Rattle.text_parts.proofs.marks.long_numeral.Goals as goal

pub front_value-requires-clause-digits : goal.front_value-requires-clause-digits
front_value-requires-clause-digits c =
    (digits_end c.args.text.now c.args.marks (λ k. (c.type_inv.text k).fits) c.requires c.if-marks-eq0.false).passed

pub returns-then-count-le-TOGETHER : goal.returns-then-count-le-TOGETHER
returns-then-count-le-TOGETHER c =
    let count = count_trailing_zeros 64 c.args.marks in
    let ends = digits_end c.args.text.now c.args.marks
    (λ k. (c.type_inv.text k).fits) c.requires c.if-marks-eq0.false in
    let few = c.if-count-le-TOGETHER.true in (
      omega (arith, few),
      numeral_there c.args.text.now count c.front_value.result (omega (arith, c.if-count-eq0.false)) ends
          (short_there c.args.text.now count c.front_value.result few ends c.front_value.ensures),
    )

pub front_value-front-requires-clause-digits : goal.front_value-front-requires-clause-digits
front_value-front-requires-clause-digits c k lt =
    let ends = digits_end c.args.text.now c.args.marks
    (λ k. (c.type_inv.text k).fits) c.requires c.if-marks-eq0.false in
    ends.passed k (omega (arith, lt, c.if-count-le-TOGETHER.false))

pub overflow_mul-value : goal.overflow_mul-value
overflow_mul-value c =
    let text = c.args.text.now in
    let count = count_trailing_zeros 64 c.args.marks in
    let ends = digits_end c.args.text.now c.args.marks
    (λ k. (c.type_inv.text k).fits) c.requires c.if-marks-eq0.false in
    let front = long_there text count c.front_value-front.result (value_of (take (count - 8) (drop 8 text)))
    c.if-text.false ends c.if-count-le-TOGETHER.false c.if-count.false c.front_value-front.ensures refl in
    record { fits = omega (arith, front.below) }

pub front_value-requires-2-clause-digits : goal.front_value-requires-2-clause-digits
front_value-requires-2-clause-digits c k lt =
    let text = c.args.text.now in
    let ends = digits_end c.args.text.now c.args.marks
    (λ k. (c.type_inv.text k).fits) c.requires c.if-marks-eq0.false in
    ap (λ t. is_digit (get_or t k 0)) (take_rest text 8) ∙ ap is_digit (get_or-drop 8 text k 0)
    ∙ ends.passed (8 + k) (omega (arith, lt))

pub overflow_add-value : goal.overflow_add-value
overflow_add-value c =
    let text = c.args.text.now in
    let count = count_trailing_zeros 64 c.args.marks in
    let ends = digits_end c.args.text.now c.args.marks
    (λ k. (c.type_inv.text k).fits) c.requires c.if-marks-eq0.false in
    let rest = ap (λ t. value_of (take (count - 8) t)) (take_rest text 8) in
    let front = long_there text count c.front_value-front.result c.front_value-2.result c.if-text.false ends
    c.if-count-le-TOGETHER.false c.if-count.false c.front_value-front.ensures (c.front_value-2.ensures ∙ rest) in
    record { fits = omega (arith, front.below) }

pub returns : goal.returns
returns c =
    let text = c.args.text.now in
    let count = count_trailing_zeros 64 c.args.marks in
    let ends = digits_end c.args.text.now c.args.marks
    (λ k. (c.type_inv.text k).fits) c.requires c.if-marks-eq0.false in
    let rest = ap (λ t. value_of (take (count - 8) t)) (take_rest text 8) in
    let front = long_there text count c.front_value-front.result c.front_value-2.result c.if-text.false ends
    c.if-count-le-TOGETHER.false c.if-count.false c.front_value-front.ensures (c.front_value-2.ensures ∙ rest) in (
      c.if-count.false,
      numeral_there text count _ (omega (arith, c.if-count-eq0.false)) ends front,
    )
