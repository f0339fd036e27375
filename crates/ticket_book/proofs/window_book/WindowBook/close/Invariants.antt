use Rattle.std.proofs.Common.{◌≡◌, List, length, map}
use Rattle.cfs_model.specs.Claimed.{Claimed}
use Rattle.ticket_book.specs.Alive.{alive_view}
use Rattle.ticket_book.proofs.Counted.{HasCounted}
use Rattle.ticket_book.proofs.Walked.{HasCome}
use Rattle.ticket_book.proofs.window_book.WindowBook.close.Given as goal

abbrev pub invariant-loop-event : goal.invariant-loop-event
invariant-loop-event g l = record {
  sums : HasCounted l.events l.fn.self.sums l.event-index l.counts l.self.sums;
  come : (said : List Claimed) → map (λ s. s.entry) said ≡ l.events
      → HasCome (map g.P.Paged.page l.pages) (length l.pages) (alive_view l.fn.self.alive) said l.event-index l.walk
      l.self.alive;
}
