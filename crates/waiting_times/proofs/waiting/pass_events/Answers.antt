use Rattle.std.proofs.Common.{◌≡◌, ℕ, ◌+◌, ◌*◌, ◌<◌, ◌≤◌, ◌^◌, All, List, length, map, take, ap, sym, subst, ◌∙◌, arith}
use Rattle.std.proofs.lemmas.List.{take_all}
use Rattle.std.proofs.lemmas.List.Elements.{All-weaker}
use Rattle.waiting_times.specs.Rows.{IsRoomy, IsWithin, acted, along}
use Rattle.waiting_times.specs.declared.task_row.TaskRow.{TaskRow}
use Rattle.waiting_times.proofs.Changed.{one_more_passed}
use Rattle.waiting_times.proofs.waiting.pass_events.Goals as goal

roomy : (n : ℕ) (rows : List TaskRow) → n < 2 ^ 63 → All (IsWithin n) rows → All IsRoomy rows
roomy n rows few all = All-weaker (IsWithin n) IsRoomy
    (λ row w. let a = w.times in let b = w.total in record { times = omega arith; total = omega arith }) rows all

pub pass-requires : goal.pass-requires
pass-requires c =
    roomy c.loop-event.event-index c.loop-event.rows.table.rows (omega arith) c.loop-event.invariant.within

pub loop-event-preserved : goal.loop-event-preserved
loop-event-preserved c =
    let events = c.args.events.now in
    let i = c.loop-event.event-index in
    let event = c.event-item.result in
    let inv = c.loop-event.invariant in
    record {
      pids = c.pass.ensures.pids ∙ inv.pids;
      rows = λ row_of rows.
          let before = λ (pid : ℕ). along pid (take i events) (row_of pid) in
          c.pass.ensures.rows before (inv.rows row_of rows ∙ ap (map before) (sym inv.pids))
          ∙ one_more_passed events i event row_of c.loop-event.rows.table.pids c.loop-event-test.true c.event-item.is
          ∙ ap (map (λ pid. along pid (take (i + 1) events) (row_of pid))) inv.pids;
      within = c.pass.ensures.within i inv.within;
    }

pub returns-clause-rows : goal.returns-clause-rows
returns-clause-rows c = λ row_of rows.
    c.loop-event.invariant.rows row_of rows
    ∙ ap (λ events. map (λ pid. along pid events (row_of pid)) c.args.rows.now.table.pids)
    (take_all c.loop-event.event-index c.args.events.now c.loop-event-test.false)

pub returns-clause-roomy : goal.returns-clause-roomy
returns-clause-roomy c =
    roomy c.loop-event.event-index c.loop-event.rows.table.rows (omega arith) c.loop-event.invariant.within
