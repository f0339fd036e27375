use Rattle.std.proofs.Common.{refl}
use Rattle.ftrace_line.specs.declared.kinds.Which.TheVariants as kinds
use Rattle.sched_event.specs.EventView.{woken}
use Rattle.sched_event.specs.FieldsView.{wakeup_fields_view}
use Rattle.sched_event.specs.Judging.{judged}
use Rattle.sched_event.specs.Seen.{wakeup_view}
use Rattle.sched_event.specs.Texts.{wakeup}
use Rattle.sched_event.proofs.UsualFields.{act_stands}
use Rattle.sched_event.proofs.usual.wakeup_act.Goals as goal

pub returns : goal.returns
unfolding judged
returns c cpu =
    act_stands cpu kinds.Wakeup c.args.text.now (wakeup (wakeup_fields_view c.in_ok-fields.fields))
    c.in_ok-fields.after.now c.in_ok-rest.rest.now (woken (wakeup_view c.in-Ok.wakeup)) c.wake.result
    c.in_ok-fields.ensures c.in_ok-rest.ensures.line c.in_ok-rest.ensures.rest (rw c.in-Ok.ensures refl) c.wake.ensures
