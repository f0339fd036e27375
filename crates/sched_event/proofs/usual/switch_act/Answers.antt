use Rattle.std.proofs.Common.{refl}
use Rattle.ftrace_line.specs.declared.kinds.Which.TheVariants as kinds
use Rattle.sched_event.specs.EventView.{switched}
use Rattle.sched_event.specs.FieldsView.{switch_fields_view}
use Rattle.sched_event.specs.Judging.{judged}
use Rattle.sched_event.specs.Seen.{switch_view}
use Rattle.sched_event.specs.Texts.{switch}
use Rattle.sched_event.proofs.UsualFields.{act_stands}
use Rattle.sched_event.proofs.usual.switch_act.Goals as goal

pub returns : goal.returns
unfolding judged
returns c =
    act_stands c.args.cpu kinds.Switch c.args.text.now (switch (switch_fields_view c.in_ok-fields.fields))
    c.in_ok-fields.after.now c.in_ok-rest.rest.now (switched (switch_view c.in-Ok.switch)) c.act.result
    c.in_ok-fields.ensures c.in_ok-rest.ensures.line c.in_ok-rest.ensures.rest (rw c.in-Ok.ensures refl) c.act.ensures
