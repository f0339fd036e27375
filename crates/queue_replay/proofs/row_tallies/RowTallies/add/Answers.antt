use Rattle.std.proofs.Common.{◌<◌, ◌≤◌, ◌∙◌, ◌∷◌, ◌++◌, [], ap, length, arith}
use Rattle.queue_replay.proofs.Indexed.{tally_added, tally_there}
use Rattle.queue_replay.proofs.row_tallies.RowTallies.add.Goals as goal

pub returns-then-len-rows : goal.returns-then-len-rows
returns-then-len-rows c =
    let items = c.args.self.now.list.items in
    let more : length items < c.args.rows = omega arith in
    c.push_reserved.ensures.items ∙ ap (λ t. items ++ t ∷ []) c.new_tally.ensures
    ∙ tally_added items c.args.pid c.args.rows c.requires.rows more

pub returns-else-len-rows : goal.returns-else-len-rows
returns-else-len-rows c =
    let items = c.args.self.now.list.items in
    let no_more : c.args.rows ≤ length items = omega arith in
    tally_there items c.args.pid c.args.rows c.requires.rows no_more
