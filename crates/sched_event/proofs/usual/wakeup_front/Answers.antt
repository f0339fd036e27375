use Rattle.std.proofs.Common.{refl}
use Rattle.sched_event.specs.FieldsView.{prio_fields_view}
use Rattle.sched_event.proofs.UsualFields.{wakeup_stands}
use Rattle.sched_event.proofs.usual.wakeup_front.Goals as goal

pub returns : goal.returns
returns c =
    wakeup_stands c.args.text.now c.in_ok-task.task.now c.in_ok-pid.pid.digits.now
    (prio_fields_view c.in_ok-task_prio.task_prio) c.in_ok-target.target.digits.now c.in_ok-target.rest.now (record {
      after1 = c.in_ok-task.rest.now;
      after2 = c.in_ok-pid.rest.now;
      after3 = c.in_ok-task_prio.rest.now;
      short = c.in_ok-task.ensures.name;
      name = c.in_ok-task.ensures.field;
      pid = c.in_ok-pid.ensures;
      prio = c.in_ok-task_prio.ensures;
      success = refl;
      target = c.in_ok-target.ensures;
    })
