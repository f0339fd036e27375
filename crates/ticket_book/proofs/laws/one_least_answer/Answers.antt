use Rattle.ticket_book.proofs.OneAnswer.{one_least_answer}
use Rattle.ticket_book.proofs.laws.one_least_answer.Goals as goal

pub returns : goal.returns
returns c = one_least_answer c.least_settings.ensures.one c.prefixes.ensures c.first_faults.ensures.one
