use Rattle.sched_event.proofs.UsualFields.{migration_stands}
use Rattle.sched_event.proofs.usual.migration_front.Goals as goal

pub returns : goal.returns
returns c =
    migration_stands c.args.text.now _ c.in_ok-dest.rest.now (record {
      after1 = c.in_ok-task.rest.now;
      after2 = c.in_ok-pid.rest.now;
      after3 = c.in_ok-task_prio.rest.now;
      after4 = c.in_ok-orig.rest.now;
      short = c.in_ok-task.ensures.name;
      name = c.in_ok-task.ensures.field;
      pid = c.in_ok-pid.ensures;
      prio = c.in_ok-task_prio.ensures;
      orig = c.in_ok-orig.ensures;
      dest = c.in_ok-dest.ensures;
    })
