use Rattle.std.proofs.Common.{arith}
use Rattle.text_parts.proofs.Columns.{column_in_front}
use Rattle.text_parts.proofs.packed.begins_with_column.Goals as goal

pub returns : goal.returns
returns c =
    let digits = c.digits_in_front-digits.result in
    let run = c.digits_in_front-digits.ensures in
    column_in_front c.args.text.now digits c.no_spaces.result c.requires run
    (omega (arith, c.if-digits-eq0.false)) (omega (arith, run.few, c.if-digits-eq-TOGETHER.false)) c.no_spaces.ensures
    c.if-no_spaces-digits-ne0.false
