use Rattle.std.proofs.Common.{sym, ◌∙◌}
use Rattle.task_names.proofs.SameAct.{act_is}
use Rattle.task_names.proofs.calling.said_by.Goals as goal

pub returns-then-eq : goal.returns-then-eq
returns-then-eq c =
    (c.in-Ok.ensures.answer, sym c.act.ensures ∙ act_is c.act.result c.args.act c.eq.result c.eq.ensures c.if-eq.true)
