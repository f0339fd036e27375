use Rattle.std.proofs.Common.{sym, subst}
use Rattle.ftrace_line.specs.Usual.{HasFront}
use Rattle.ftrace_line.proofs.Labels.{label_within}
use Rattle.ftrace_line.proofs.Fronts.{labelled_stands, unlabelled_stands}
use Rattle.ftrace_line.proofs.usual.usual_front.Goals as goal

pub fields_of-requires : goal.fields_of-requires
fields_of-requires c = label_within c.in_ok-head.head.text.now c.in-Some.which (sym c.in-Some.ensures)

pub returns-in-Some : goal.returns-in-Some
returns-in-Some c =
    let head = c.in_ok-head.head in
    subst (HasFront c.args.text.now head.cpu head.time _) (sym c.fields_of.ensures)
    (labelled_stands c.args.text.now head.cpu head.time head.text.now c.in-Some.which c.in_ok-head.ensures
    (sym c.in-Some.ensures))

pub returns-in-None : goal.returns-in-None
returns-in-None c =
    let head = c.in_ok-head.head in
    unlabelled_stands c.args.text.now head.cpu head.time head.text.now c.in_ok-head.ensures (sym c.in-None.ensures)
