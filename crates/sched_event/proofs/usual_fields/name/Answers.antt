use Rattle.sched_event.proofs.UsualFields.{name_field}
use Rattle.sched_event.proofs.usual_fields.name.Goals as goal

pub returns-clause-field : goal.returns-clause-field
returns-clause-field c =
    name_field c.args.key.now c.args.text.now c.in_ok-after.after.now c.split_at.result.0.now c.split_at.result.1.now
    c.in_ok-index.index c.in_ok-after.ensures c.in_ok-index.ensures.unbroken c.split_at.ensures.front
    c.split_at.ensures.back
