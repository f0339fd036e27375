use Rattle.sched_event.proofs.UsualFields.{state_field}
use Rattle.sched_event.proofs.usual_fields.state.Goals as goal

pub returns-clause-state : goal.returns-clause-state
returns-clause-state c =
    let s = state_field c.args.key.now c.args.text.now c.in_ok-after.after.now c.split_at.result.0.now
    c.split_at.result.1.now c.plain_count-count.result c.in_ok-after.ensures c.plain_count-count.ensures.count
    c.if-count-eq0.false c.split_at.ensures.front c.split_at.ensures.back in
    s.form

pub returns-clause-field : goal.returns-clause-field
returns-clause-field c =
    let s = state_field c.args.key.now c.args.text.now c.in_ok-after.after.now c.split_at.result.0.now
    c.split_at.result.1.now c.plain_count-count.result c.in_ok-after.ensures c.plain_count-count.ensures.count
    c.if-count-eq0.false c.split_at.ensures.front c.split_at.ensures.back in
    s.field
