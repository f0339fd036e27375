use Rattle.std.proofs.Common.{sym}
use Rattle.queue_replay.proofs.Indexed.{picked_mine, picked_there}
use Rattle.queue_replay.proofs.row_tallies.RowTallies.add_pick.Goals as goal

pub returns-then-stands_at : goal.returns-then-stands_at
returns-then-stands_at c =
    let items = c.args.self.now.list.items in
    let before = c.index_mut.result.now in
    let f = c.stands_at.ensures c.if-stands_at.true in
    picked_there items c.requires.apart c.args.pid c.args.expected before c.pick.new.tally f.0 (f.1 before)
    (picked_mine c.args.pid before _ _ (sym c.index_mut.ensures.value) (f.1 before) c.pick.ensures)
