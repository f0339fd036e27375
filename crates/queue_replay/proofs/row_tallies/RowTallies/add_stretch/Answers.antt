use Rattle.std.proofs.Common.{sym}
use Rattle.queue_replay.proofs.Indexed.{ran_mine, ran_there}
use Rattle.queue_replay.proofs.row_tallies.RowTallies.add_stretch.Goals as goal

pub returns-then-stands_at-clause-tallies : goal.returns-then-stands_at-clause-tallies
returns-then-stands_at-clause-tallies c =
    let items = c.args.self.now.list.items in
    let s = c.args.stretch in
    let before = c.index_mut.result.now in
    let f = c.stands_at.ensures c.if-stands_at.true in
    ran_there items c.requires.apart s.pid s.time s.cost c.args.expected before c.add_run.new.tally f.0 (f.1 before)
    (ran_mine s.pid s.time s.cost before _ _ (sym c.index_mut.ensures.value) (f.1 before) c.add_run.ensures)
