use Rattle.ticket_book.proofs.LargestNeeds.{AreLargest}
use Rattle.ticket_book.proofs.least_closing.largest_needs.Given as goal

abbrev pub invariant-loop-page : goal.invariant-loop-page
invariant-loop-page l = AreLargest l.pages l.page-index l.largest
