use Rattle.queue_replay.proofs.Indexed.{own_none}
use Rattle.queue_replay.proofs.tally_book.TallyBook.new.Goals as goal

pub invariant_of-result : goal.invariant_of-result
invariant_of-result c = record { own = own_none c.new.result c.new.ensures.pids c.new.ensures.rows }
