use Rattle.std.proofs.Common.{length, subst, ◌≤◌}
use Rattle.cfs_model.specs.Limits.{greatest_setting}
use Rattle.replay_model.specs.Summary.{tasks_of_run}
use Rattle.sched_record.specs.Record.{record_view}
use Rattle.ticket_book.specs.SaidEvents.{events_of}
use Rattle.ticket_book.specs.Told.{Tell, pages_of, view_at}
use Rattle.ticket_book.proofs.Verdicts.{fault_is_verdict, run_of, sums_fit, tickets_rise}
use Rattle.ticket_book.proofs.closing.verdict_on.Goals as goal

pub book_of-requires-clause-rise : goal.book_of-requires-clause-rise
book_of-requires-clause-rise c =
    tickets_rise c.args.knobs (record_view c.args.joined.now) c.args.pages.now c.requires c.args.joined.now.in_order

pub returns-in-Some : goal.returns-in-Some
returns-in-Some c =
    let r = record_view c.args.joined.now in
    let pages = c.args.pages.now in
    fault_is_verdict c.args.knobs r pages c.requires c.closing.ensures.fault c.first_faults.ensures.first_bad
    c.args.joined.now.in_order
    c.in-Some.fault
    (subst (Tell (view_at (pages_of pages)) (length pages) r.tasks (events_of r)) c.in-Some.is
    c.in_ok-book.ensures.told)

pub summary-requires : goal.summary-requires
summary-requires c =
    let r = record_view c.args.joined.now in
    let pages = c.args.pages.now in
    let order = c.args.joined.now.in_order in
    let nothing = subst (Tell (view_at (pages_of pages)) (length pages) r.tasks (events_of r)) c.in-None.is
    c.in_ok-book.ensures.told in (
      r.tasks,
      events_of r,
      c.in_ok-book.ensures.passed c.in-None.is,
      sums_fit c.args.knobs r pages c.requires order
          nothing c.tallying.ensures.totals c.tallying.ensures.bounded c.last_time.result c.last_line.result
          c.last_time.ensures
          c.last_time.type_inv c.last_line.ensures c.last_line.type_inv
          (subst (λ n. n ≤ greatest_setting) c.drift.ensures.same c.drift.ensures.in_range) (tasks_of_run r.tasks
          (events_of r)),
    )

pub returns-in-None : goal.returns-in-None
returns-in-None c =
    let r = record_view c.args.joined.now in
    let pages = c.args.pages.now in
    let order = c.args.joined.now.in_order in
    let nothing = subst (Tell (view_at (pages_of pages)) (length pages) r.tasks (events_of r)) c.in-None.is
    c.in_ok-book.ensures.told in
    run_of c.args.knobs r pages c.requires order
    nothing c.tallying.ensures.summary c.summary.result
    (c.summary.ensures r.tasks (events_of r) (c.in_ok-book.ensures.passed c.in-None.is))
