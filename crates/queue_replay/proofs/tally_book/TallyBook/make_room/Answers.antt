use Rattle.queue_replay.proofs.Indexed.{own_same}
use Rattle.queue_replay.proofs.tally_book.TallyBook.make_room.Goals as goal

pub invariant_of-self : goal.invariant_of-self
invariant_of-self c =
    let book = c.args.self.now in
    let e = c.make_room.ensures in
    record { own = own_same book.table c.make_room.new.self book.own e.pids e.rows }
