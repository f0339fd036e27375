use Rattle.std.specs.Prelude.{codes}
use Rattle.companion_file.proofs.UsualLines.{line_stands}
use Rattle.companion_file.proofs.usual_line.usual_charge.Goals as goal

pub returns : goal.returns
returns c =
    line_stands (codes "charge ") c.args.text.now c.in_ok-after_front.field-0.now c.in_ok-after_front.ensures
    c.usual_fields.result c.usual_fields.ensures
