use Rattle.std.proofs.Common.{map, sym, ap, ◌∙◌}
use Rattle.std.proofs.lemmas.List.{take_all}
use Rattle.replay_model.specs.Noted.{new_tally}
use Rattle.ticket_book.specs.Tallying.{with_tallies}
use Rattle.ticket_book.proofs.Adding.{add_none, one_added, one_fits}
use Rattle.ticket_book.proofs.task_sums.add_all.Goals as goal

pub loop-tally-init : goal.loop-tally-init
loop-tally-init c = sym (add_none c.args.sums.now.table.rows)

pub add-expected-requires : goal.add-expected-requires
add-expected-requires c =
    one_fits c.args.tallies.now c.args.sums.now.table.rows c.loop-tally.sums.table.rows c.loop-tally.tally-index
    (new_tally 0)
    c.loop-tally-test.true c.loop-tally.invariant c.requires

pub loop-tally-preserved : goal.loop-tally-preserved
loop-tally-preserved c =
    one_added c.args.tallies.now c.args.sums.now.table.rows c.loop-tally.sums.table.rows c.loop-tally.tally-index
    (new_tally 0)
    c.loop-tally-test.true c.loop-tally.invariant c.add-expected.new.sums.table.rows c.add-expected.ensures

pub returns : goal.returns
returns c =
    c.loop-tally.invariant
    ∙ ap (λ l. map (with_tallies l) c.args.sums.now.table.rows)
    (take_all c.loop-tally.tally-index c.args.tallies.now c.loop-tally-test.false)
