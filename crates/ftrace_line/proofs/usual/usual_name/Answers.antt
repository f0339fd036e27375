use Rattle.std.proofs.lemmas.Bool.{OnTrue_at}
use Rattle.ftrace_line.proofs.HeadParts.{name_taken}
use Rattle.ftrace_line.proofs.Fronts.{name_stands}
use Rattle.ftrace_line.proofs.usual.usual_name.Goals as goal

pub returns : goal.returns
returns c =
    let rest = c.in_ok-rest.rest.now in
    let taken = name_taken c.args.text.now rest c.in_ok-rest.ensures in
    name_stands c.args.text.now taken.0 rest taken.1 taken.2
    (OnTrue_at c.if-not-is_unbroken.false c.is_unbroken.ensures)
