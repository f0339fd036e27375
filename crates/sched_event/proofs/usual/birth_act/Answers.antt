use Rattle.std.proofs.Common.{refl}
use Rattle.ftrace_line.specs.declared.kinds.Which.TheVariants as kinds
use Rattle.sched_event.specs.EventView.{born}
use Rattle.sched_event.specs.FieldsView.{wakeup_fields_view}
use Rattle.sched_event.specs.Judging.{judged}
use Rattle.sched_event.specs.Seen.{wakeup_view}
use Rattle.sched_event.specs.Texts.{wakeup_new}
use Rattle.sched_event.proofs.UsualFields.{act_stands, birth_stands}
use Rattle.sched_event.proofs.usual.birth_act.Goals as goal

pub returns : goal.returns
unfolding judged
returns c cpu =
    let text = c.args.text.now in
    let after = c.in_ok-fields.after.now in
    let fields = wakeup_fields_view c.in_ok-fields.fields in
    act_stands cpu kinds.WakeupNew text (wakeup_new fields) after c.in_ok-rest.rest.now
    (born (wakeup_view c.in-Ok.birth)) c.birth.result (birth_stands text fields after c.in_ok-fields.ensures)
    c.in_ok-rest.ensures.line c.in_ok-rest.ensures.rest (rw c.in-Ok.ensures refl) c.birth.ensures
