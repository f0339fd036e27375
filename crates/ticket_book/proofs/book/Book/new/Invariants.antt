use Rattle.std.proofs.Common.{◌≡◌, None, replicate}
use Rattle.ticket_book.proofs.book.Book.new.Given as goal

abbrev pub invariant-loop-cpu : goal.invariant-loop-cpu
invariant-loop-cpu l = l.slots.items ≡ replicate l._cpu None
