use Rattle.ticket_book.proofs.WholeLeft.{whole_pages_left}
use Rattle.ticket_book.proofs.laws.whole_pages_left.Goals as goal

pub returns : goal.returns
returns c = whole_pages_left
