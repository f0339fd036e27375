use Rattle.sched_event.proofs.Keyed.{unsigned_prio}
use Rattle.sched_event.proofs.usual_fields.prio.Goals as goal

pub returns : goal.returns
returns c =
    unsigned_prio c.args.key.now c.args.text.now c.in_ok-numeral.numeral.digits.now c.in_ok-numeral.rest.now
    c.in_ok-numeral.ensures
