use Rattle.std.proofs.Common.{refl}
use Rattle.ftrace_line.specs.declared.kinds.Which.TheVariants as kinds
use Rattle.sched_event.specs.EventView.{migrated}
use Rattle.sched_event.specs.FieldsView.{migration_fields_view}
use Rattle.sched_event.specs.Judging.{judged}
use Rattle.sched_event.specs.Seen.{migration_view}
use Rattle.sched_event.specs.Texts.{migration}
use Rattle.sched_event.proofs.UsualFields.{act_stands}
use Rattle.sched_event.proofs.usual.migration_act.Goals as goal

pub returns : goal.returns
unfolding judged
returns c cpu =
    act_stands cpu kinds.MigrateTask c.args.text.now (migration (migration_fields_view c.in_ok-fields.fields))
    c.in_ok-fields.after.now c.in_ok-rest.rest.now (migrated (migration_view c.in-Ok.migration)) c.act.result
    c.in_ok-fields.ensures c.in_ok-rest.ensures.line c.in_ok-rest.ensures.rest (rw c.in-Ok.ensures refl) c.act.ensures
