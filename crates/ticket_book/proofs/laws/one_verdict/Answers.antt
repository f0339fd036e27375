use Rattle.ticket_book.proofs.OneAnswer.{one_verdict}
use Rattle.ticket_book.proofs.laws.one_verdict.Goals as goal

pub returns : goal.returns
returns c = one_verdict c.one_list.ensures.list c.first_faults.ensures.run c.first_faults.ensures.one
