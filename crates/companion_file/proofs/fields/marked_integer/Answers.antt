use Rattle.std.proofs.Common.{w64, arith}
use Rattle.std.proofs.lemmas.Int.{to_z_pos}
use Rattle.std.proofs.lemmas.List.{take_rest}
use Rattle.companion_file.proofs.MarkedFields.{integer_read}
use Rattle.companion_file.proofs.fields.marked_integer.Goals as goal

pub returns : goal.returns
returns c =
    let text = c.args.text.now in
    let digits = c.in_ok-digits.digits in
    let number = c.in_ok-digits.number in
    let has = c.in_ok-digits.ensures.1 in
    rw (to_z_pos w64 number (omega (arith, has.small)), take_rest text digits) (integer_read text digits number has)
