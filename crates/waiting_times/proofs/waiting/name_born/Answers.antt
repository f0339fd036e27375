use Rattle.std.proofs.Common.{map, ap, ◌∙◌}
use Rattle.std.proofs.lemmas.List.{take_all}
use Rattle.waiting_times.specs.Naming.{births_in, with_pids}
use Rattle.waiting_times.proofs.Named.{births_more}
use Rattle.waiting_times.proofs.waiting.name_born.Goals as goal

pub loop-event-preserved : goal.loop-event-preserved
loop-event-preserved c = record {
  pids = births_more c.args.events.now c.loop-event.event-index c.event-item.result c.args.rows.now.table.pids
      c.loop-event.rows.table.pids c.name_begun.new.rows.table.pids c.loop-event-test.true c.event-item.is
      c.loop-event.invariant.pids c.in_ok-name_begun.ensures.pids;
  rows = λ fresh_rows. c.in_ok-name_begun.ensures.rows (c.loop-event.invariant.rows fresh_rows);
}

pub returns-clause-pids : goal.returns-clause-pids
returns-clause-pids c =
    c.loop-event.invariant.pids
    ∙ ap (λ events. with_pids (births_in events) c.args.rows.now.table.pids)
    (take_all c.loop-event.event-index c.args.events.now c.loop-event-test.false)
