use Rattle.std.proofs.Common.{sym}
use Rattle.queue_replay.proofs.Indexed.{picked_mine, picked_there, picked_nowhere}
use Rattle.queue_replay.proofs.row_tallies.RowTallies.add_pick_by_search.Goals as goal

pub returns-in-Some : goal.returns-in-Some
returns-in-Some c =
    let items = c.args.self.now.list.items in
    let index = c.in-Some.index in
    let before = c.index_mut.result.now in
    let f = c.search.ensures.found index c.in-Some.is in
    picked_there items c.requires.apart c.args.pid index before c.pick.new.tally f.0 (f.1 before)
    (picked_mine c.args.pid before _ _ (sym c.index_mut.ensures.value) (f.1 before) c.pick.ensures)

pub returns-in_default : goal.returns-in_default
returns-in_default c = picked_nowhere c.args.self.now.list.items c.args.pid (c.search.ensures.none c.in_default.is)
