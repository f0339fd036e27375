use Rattle.std.proofs.Common.{length, sym, ◌∙◌, subst}
use Rattle.cfs_model.specs.Least.{AreLeast, greatest_settings}
use Rattle.cfs_model.specs.Knobs.{AreInRange}
use Rattle.cfs_model.specs.Start.{start_machine}
use Rattle.replay_laws.specs.Telling.{SayNothing}
use Rattle.sched_record.specs.Record.{record_view}
use Rattle.ticket_book.specs.SaidEvents.{events_of}
use Rattle.ticket_book.specs.Told.{Tell, pages_of, view_at}
use Rattle.ticket_book.proofs.LeastFound.{bad_of, faultless_of, in_range, least_of}
use Rattle.ticket_book.proofs.Verdicts.{tickets_rise}
use Rattle.ticket_book.proofs.least_closing.least_on.Goals as goal
use Rattle.ticket_book.proofs.least_closing.least_on.Goals.{After-largest_needs}

pub told_by-requires-clause-rise : goal.told_by-requires-clause-rise
told_by-requires-clause-rise c =
    tickets_rise greatest_settings (record_view c.args.joined.now) c.args.pages.now c.requires
    c.args.joined.now.in_order

pub returns-in-Some-clause-answer : goal.returns-in-Some-clause-answer
returns-in-Some-clause-answer c =
    let r = record_view c.args.joined.now in
    let pages = c.args.pages.now in
    bad_of r pages c.requires c.args.joined.now.in_order c.closing.ensures.fault c.first_faults.ensures.first_bad
    c.least_settings.ensures.bad_at_all c.in-Some.fault
    (subst (Tell (view_at (pages_of pages)) (length pages) r.tasks (events_of r)) c.in-Some.is c.in_ok-fault.ensures)

-- the pages say nothing against any event
nothing : (c : After-largest_needs) → let r = record_view c.args.joined.now in let pages = c.args.pages.now in
    SayNothing (view_at (pages_of pages)) (length pages) r.tasks (events_of r)
nothing c =
    let r = record_view c.args.joined.now in
    let pages = c.args.pages.now in
    subst (Tell (view_at (pages_of pages)) (length pages) r.tasks (events_of r)) c.in-None.is c.in_ok-fault.ensures

pub knobs_of-requires : goal.knobs_of-requires
knobs_of-requires c =
    let r = record_view c.args.joined.now in
    let pages = c.args.pages.now in
    subst AreInRange (sym c.largest_needs.ensures.largest)
    (in_range r pages c.requires c.args.joined.now.in_order
    (nothing c) c.largest_needs.ensures.have c.closing.ensures.done
    c.needs.ensures.pages c.closing.ensures.run)

pub returns-in-None-clause-answer : goal.returns-in-None-clause-answer
returns-in-None-clause-answer c =
    let r = record_view c.args.joined.now in
    let pages = c.args.pages.now in
    let quiet = nothing (goal.at.returns-in-None-clause-answer c).After-largest_needs in
    subst (λ knobs. AreLeast r.start (start_machine r.start r.floors r.tasks) (events_of r) knobs × AreInRange knobs)
    (sym (c.knobs_of.ensures ∙ c.largest_needs.ensures.largest)) (
      least_of r pages c.requires c.args.joined.now.in_order quiet c.largest_needs.ensures.have c.closing.ensures.done
          c.needs.ensures.pages,
      in_range r pages c.requires c.args.joined.now.in_order quiet c.largest_needs.ensures.have c.closing.ensures.done
          c.needs.ensures.pages c.closing.ensures.run,
    )

pub returns-in-None-clause-behind : goal.returns-in-None-clause-behind
returns-in-None-clause-behind c =
    let r = record_view c.args.joined.now in
    let pages = c.args.pages.now in
    let quiet = nothing (goal.at.returns-in-None-clause-behind c).After-largest_needs in
    faultless_of r pages c.requires c.args.joined.now.in_order quiet c.largest_needs.ensures.have
    c.closing.ensures.done
