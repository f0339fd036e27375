use Rattle.std.proofs.Common.{w64, rules}
use Rattle.std.proofs.lemmas.Int.{to_z-of_z}
use mir.Val.{SFits}
use Rattle.companion_file.proofs.UsualLines.{fields_stand}
use Rattle.companion_file.proofs.usual_line.any_fields.Goals as goal

pub returns : goal.returns
returns c =
    let v = c.in_ok-v.v in
    let fits : SFits w64 v = search rules in
    rw (to_z-of_z w64 v fits)
    (fields_stand c.args.text.now c.in_ok-line.after_line.now c.in_ok-pid.after_pid.now c.in_ok-v.after_v.now
    c.in_ok-rest.rest.now c.in_ok-line.line c.in_ok-pid.pid v c.in_ok-line.ensures c.in_ok-pid.ensures
    c.in_ok-v.ensures c.in_ok-rest.ensures.line c.in_ok-rest.ensures.rest)
