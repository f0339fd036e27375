use Rattle.sched_record.specs.Record.{record_view}
use Rattle.sched_record.proofs.Beside.{next_index}
use Rattle.sched_record.proofs.record.Record.charge_beside.Goals as goal

pub returns-clause-next : goal.returns-clause-next
returns-clause-next c =
    next_index _ _ (record_view c.args.self.now).charges (record_view c.args.self.now).events c.events.result.now
    c.charges-charges.result.now c.args.event
    c.args.from _ c.index-events-event.result c.args.self.now.in_order.events.lines_rise c.events.ensures
    c.charges-charges.ensures c.requires.event
    c.requires.from c.index_from-index.ensures.within.1 c.index_from-index.ensures.below
