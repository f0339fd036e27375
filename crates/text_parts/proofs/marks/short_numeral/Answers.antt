use Rattle.std.proofs.Common.{arith}
use lib.Count.{count_trailing_zeros}
use Rattle.text_parts.proofs.Marked.{digits_end, numeral_there, short_there}
use Rattle.text_parts.proofs.marks.short_numeral.Goals as goal

pub front_value-requires-clause-digits : goal.front_value-requires-clause-digits
front_value-requires-clause-digits c =
    (digits_end c.args.text.now c.args.marks (λ k. (c.type_inv.text k).fits) c.requires c.if-marks-eq0.false).passed

pub returns : goal.returns
returns c =
    let count = count_trailing_zeros 64 c.args.marks in
    let ends = digits_end c.args.text.now c.args.marks
    (λ k. (c.type_inv.text k).fits) c.requires c.if-marks-eq0.false in
    let few = c.if-count-gt-TOGETHER.false in (
      few,
      numeral_there c.args.text.now count c.front_value.result (omega (arith, c.if-count-eq0.false)) ends
          (short_there c.args.text.now count c.front_value.result few ends c.front_value.ensures),
    )
