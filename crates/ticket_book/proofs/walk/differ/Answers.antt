use Rattle.ticket_book.proofs.SameTicket.{on_false, not_on_true, tickets_decide}
use Rattle.ticket_book.proofs.walk.differ.Goals as goal

pub returns-clause-differ : goal.returns-clause-differ
returns-clause-differ c = not_on_true _ c.ne.result _ (tickets_decide c.args.leaves c.args.comes) c.ne.ensures

pub returns-clause-same : goal.returns-clause-same
returns-clause-same c = on_false _ c.ne.result _ (tickets_decide c.args.leaves c.args.comes) c.ne.ensures
