use Rattle.std.proofs.Common.{All, List, length, sym, subst}
use Rattle.replay_model.specs.Summary.{tasks_of_run}
use Rattle.tally_laws.specs.Totals.{summary_by, tallies_below, total_of}
use Rattle.ticket_book.specs.Tallying.{FitsTally}
use Rattle.ticket_book.specs.Told.{view_at}
use Rattle.window_audit.specs.Audit.{IsSummaryOf}
use Rattle.window_audit.specs.declared.member.Member.{Member}
use Rattle.window_audit.proofs.Ending.{summed, sums_fit}
use Rattle.window_audit.proofs.Passing.{pages_of}
use Rattle.window_audit.proofs.audit.WindowAudit.finish.Goals as goal

pub summary-requires : goal.summary-requires
summary-requires c =
    let of = c.requires.0 in
    let events = c.requires.1 in
    let whole = c.requires.2 in (
      of.tasks,
      events,
      whole.audit_is.book,
      subst (λ (ms : List Member). All (λ pid. FitsTally (total_of (tallies_below (view_at (pages_of ms)) (length ms))
          pid))
          (tasks_of_run of.tasks events)) (sym c.deref.ensures.value)
          (sums_fit of events c.args.self whole c.window_ends.ensures.summary c.tallying.ensures.bounded),
    )

pub returns : goal.returns
returns c = λ of events whole.
    subst (IsSummaryOf of events) (sym (c.summary.ensures of.tasks events whole.audit_is.book))
    (subst (λ (ms : List Member). IsSummaryOf of events (summary_by (tallies_below (view_at (pages_of ms)) (length ms))
    of.tasks events)) (sym c.deref.ensures.value)
    (summed of events c.args.self whole c.window_ends.ensures.summary c.tallying.ensures.bounded))
