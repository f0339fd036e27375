use Rattle.std.proofs.Common.{sym, ◌∙◌}
use Rattle.ftrace_line.proofs.SharedFront.{kind_behind_front, no_kind}
use Rattle.ftrace_line.proofs.reading.kind_of.Goals as goal

pub returns-in-Some : goal.returns-in-Some
returns-in-Some c =
    c.kind_by_name.ensures ∙ sym (kind_behind_front c.args.text.now c.in-Some.name.now c.in-Some.ensures)

pub returns-in-None : goal.returns-in-None
returns-in-None c = sym (no_kind c.args.text.now c.in-None.ensures)
