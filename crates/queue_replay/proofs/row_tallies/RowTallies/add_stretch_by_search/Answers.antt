use Rattle.std.proofs.Common.{sym}
use Rattle.queue_replay.proofs.Indexed.{ran_mine, ran_there, ran_nowhere}
use Rattle.queue_replay.proofs.row_tallies.RowTallies.add_stretch_by_search.Goals as goal

pub returns-in-Some-clause-tallies : goal.returns-in-Some-clause-tallies
returns-in-Some-clause-tallies c =
    let items = c.args.self.now.list.items in
    let s = c.args.stretch in
    let index = c.in-Some.index in
    let before = c.index_mut.result.now in
    let f = c.search.ensures.found index c.in-Some.is in
    ran_there items c.requires.apart s.pid s.time s.cost index before c.add_run.new.tally f.0 (f.1 before)
    (ran_mine s.pid s.time s.cost before _ _ (sym c.index_mut.ensures.value) (f.1 before) c.add_run.ensures)

pub returns-in_default-clause-tallies : goal.returns-in_default-clause-tallies
returns-in_default-clause-tallies c =
    ran_nowhere c.args.self.now.list.items c.args.stretch.pid c.args.stretch.time c.args.stretch.cost
    (c.search.ensures.none c.in_default.is)
