-- What pages that suffice tell of a record is the verdict on it.
use Rattle.std.proofs.Common.{◌≡◌, ℕ, zero, suc, ◌^◌, ◌<◌, ◌≤◌, Some, IsSome, ◌⊎◌, List, [], ◌∷◌, length, get_or, All}
use Rattle.std.proofs.Common.{refl, sym, subst, arith}
use Rattle.std.specs.Prelude.{slice_get}
use Rattle.std.specs.List.{AllPairs}
use Rattle.std.proofs.lemmas.List.{length-map}
use Rattle.std.proofs.lemmas.Option.{slice_get_within}
use Rattle.cfs_model.specs.Claimed.{with_claim}
use Rattle.cfs_model.specs.Limits.{greatest_setting}
use Rattle.cfs_model.specs.Knobs.{KnobsView}
use Rattle.cfs_model.specs.declared.act.Entry.{Entry}
use Rattle.cfs_model.specs.Start.{start_machine}
use Rattle.replay_model.specs.Cause.{IsFirstFault}
use Rattle.replay_laws.specs.Sufficing.{HasFaultBy, SufficesAmong}
use Rattle.replay_laws.specs.Closing.{PagesTellFault}
use Rattle.replay_laws.specs.FirstFaults.{FaultIsFirstBad}
use Rattle.replay_laws.specs.Telling.{SayNothing}
use Rattle.replay_model.specs.Record.{IsRecord}
use Rattle.replay_model.specs.Cut.{StreamView}
use Rattle.replay_model.specs.Noted.{PageView}
use Rattle.replay_model.specs.Page.{IsPageOf}
use Rattle.tally_laws.specs.Tallying.{PagesAddUp, PagesTellSummary, TalliesBounded}
use Rattle.tally_laws.specs.Totals.{summary_by, tallies_below, total_of}
use Rattle.replay_model.proofs.RecordFrom.{record_from}
use Rattle.replay_model.proofs.StartFrom.{start_from}
use Rattle.queue_replay.specs.Replay.{ReplayView}
use Rattle.sched_record.specs.RecordView.{policy_of}
use Rattle.sched_record.proofs.StreamsKept.{stream_of_record}
use Rattle.sched_record.specs.Record.{RecordView, IsRecordInOrder, record_last_line, record_last_time}
use Rattle.sched_record.specs.Stream.{cut_of}
use Rattle.ticket_book.specs.SaidEvents.{events_of}
use Rattle.ticket_book.specs.SummaryView.{summary_view}
use Rattle.ticket_book.specs.Tallying.{FitsTally}
use Rattle.ticket_book.specs.Told.{Tell, cause_view, pages_of, view_at}
use Rattle.ticket_book.specs.Verdict.{IsFaulty, IsScheduled, IsVerdict}
use Rattle.ticket_book.specs.Walk.{TicketsRise}
use Rattle.ticket_book.specs.Whole.{AreSufficient, SufficesBeside}
use Rattle.ticket_book.proofs.Extent.{bounds_fit, events_few, last_greatest, times_below}
use Rattle.ticket_book.proofs.TicketOrder.{own_tickets_rise}
use Rattle.replay_model.specs.declared.first_fault.FirstFault.{FirstFault}
use Rattle.ticket_book.specs.declared.summary.Summary.{Summary}
use Rattle.ticket_book.specs.declared.verdict.Verdict.TheVariants.{Run}

-- what a record keeps, as the laws of the replays take it
pub record_in_order : (r : RecordView) → IsRecordInOrder r
    → IsRecord r.start r.floors r.tasks (events_of r) r.cpus
record_in_order r o =
    let start = start_from r.floors r.tasks o.companion.pids_rise o.companion.one_runs_a_cpu
    (λ k d h. (o.companion.tasks_in_limits k d h).v) o.companion.floors_in_limits in
    record_from r.start r.floors r.tasks r.claims r.nices r.charges (policy_of r) r.events r.cpus start
    (λ k d h. (o.companion.tasks_in_limits k d h).cpu) o.inside (λ k d h. (o.companion.claims_in_limits k d h).v)
    (λ k d h. (o.companion.charges_in_limits k d h).v)
    o.events.never_falls o.started o.events.lines_rise o.events.from_one

-- the page at an index
pub page_there : (pages : List ReplayView) (cpu : ℕ) → cpu < length pages
    → (page : ReplayView) × (slice_get pages cpu ≡ Some page) × (view_at (pages_of pages) cpu ≡ page.page)
page_there [] cpu h = absurd (omega arith)
page_there (page ∷ pages) zero h = (page, refl, refl)
page_there (page ∷ pages) (suc cpu) h = page_there pages cpu (omega arith)

-- a page that suffices, as the laws of the closing take it
abbrev pub suffices_among : (knobs : KnobsView) (r : RecordView) (pages : List ReplayView) (cpu : ℕ) (page : ReplayView)
    → SufficesBeside knobs r pages cpu page → view_at (pages_of pages) cpu ≡ page.page
    → SufficesAmong knobs r.start r.floors r.tasks (events_of r) (length pages) (view_at (pages_of pages)) cpu
suffices_among knobs r pages cpu page s is = record {
  made = page.made;
  is_page = subst (λ v. IsPageOf (cut_of r cpu) knobs page.made v) (sym is)
      (subst (λ t. IsPageOf t knobs page.made page.page) s.stream
      (subst (λ k. IsPageOf page.stream k page.made page.page) s.knobs_are s.is_page));
  enough = subst (λ (v : PageView). IsSome v.fault ⊎ (length (cut_of r cpu).steps ≤ page.made)
      ⊎ HasFaultBy (view_at (pages_of pages)) (length pages) v.line) (sym is) s.enough;
}

module _ (knobs : KnobsView) (r : RecordView) (pages : List ReplayView) (sufficient : AreSufficient knobs r pages) where
  -- each processor's page suffices
  abbrev pub AreTold : Type 0
  AreTold = (cpu : ℕ) → cpu < length pages
      → SufficesAmong knobs r.start r.floors r.tasks (events_of r) (length pages) (view_at (pages_of pages)) cpu

  pub all_suffice : AreTold
  all_suffice cpu h =
      let p = page_there pages cpu h in suffices_among knobs r pages cpu p.0 (sufficient.each cpu p.0 p.1) p.2

  pub in_record : IsRecordInOrder r → IsRecord r.start r.floors r.tasks (events_of r) (length pages)
  in_record o = subst (IsRecord r.start r.floors r.tasks (events_of r)) (sym sufficient.count) (record_in_order r o)

  -- what they say first is what is wrong
  pub fault_is_verdict : PagesTellFault → FaultIsFirstBad → IsRecordInOrder r → (fault : FirstFault)
      → Tell (view_at (pages_of pages)) (length pages) r.tasks (events_of r) (Some fault) → IsFaulty knobs r fault
  fault_is_verdict faults first_bad o fault tell =
      let first =
      subst (λ n. IsFirstFault knobs r.start (start_machine r.start r.floors r.tasks) (events_of r) n
      (cause_view fault))
      tell.line_is
      (faults knobs r.start r.floors r.tasks (events_of r) tell.before tell.rest tell.event (length pages)
      (view_at (pages_of pages))
      (cause_view fault) (in_record o) all_suffice tell.whole tell.nothing tell.why) in
      record {
        line = first_bad knobs r.start r.floors r.tasks (events_of r) fault.line (cause_view fault) first;
        cause = first;
      }

  module _ (o : IsRecordInOrder r)
      (nothing : SayNothing (view_at (pages_of pages)) (length pages) r.tasks (events_of r)) where
    -- where they say nothing, the summary by them is the run's
    pub run_of : PagesTellSummary → (summary : Summary)
        → summary_view summary ≡ summary_by (tallies_below (view_at (pages_of pages)) (length pages)) r.tasks
        (events_of r)
        → IsVerdict knobs r (Run summary)
    run_of tells summary is =
        subst (IsScheduled knobs r) (sym is)
        (tells knobs r.start r.floors r.tasks (events_of r) (length pages) (view_at (pages_of pages))
        (in_record o) all_suffice nothing)

    -- and no sum of their tallies is too great
    pub sums_fit : PagesAddUp → TalliesBounded → (last_time last_line : ℕ) → last_time ≡ record_last_time r
        → last_time < 2 ^ 64
        → last_line ≡ record_last_line r → last_line < 2 ^ 32 → knobs.drift ≤ greatest_setting → (pids : List ℕ)
        → All (λ pid. FitsTally (total_of (tallies_below (view_at (pages_of pages)) (length pages)) pid)) pids
    sums_fit add_up bounded last_time last_line time_is time line_is line drift pids k d h =
        let added = add_up knobs r.start r.floors r.tasks (events_of r) (length pages) (view_at (pages_of pages))
        (in_record o) all_suffice nothing in
        let pid = get_or pids k d in
        subst FitsTally (sym (added.1 pid))
        (bounds_fit _ (length (events_of r)) last_time knobs.drift
        (let n = length-map r.events (with_claim r.claims r.nices r.charges (policy_of r)) in
        let few = events_few r.events o.events.from_one o.events.lines_rise in
        omega (arith, n, few, line_is, line)) time drift
        (bounded knobs r.start r.floors r.tasks (events_of r) last_time pid (in_record o).is_start
        (times_below r.claims r.nices r.charges (policy_of r) r.events last_time
        (λ j e w. let below = last_greatest
        (λ (event : Entry). event.time) r.events r.start o.events.never_falls j e w in
        omega (arith, below, time_is))) added.0))

  -- the tickets on each page are in the order of their lines
  pub tickets_rise : IsRecordInOrder r → TicketsRise (pages_of pages)
  tickets_rise o =
      own_tickets_rise pages
      (λ cpu page is. record {
        is_page = (sufficient.each cpu page is).is_page;
        lines = subst (λ (s : StreamView). AllPairs (λ a b. a.line < b.line) s.steps)
            (sym (sufficient.each cpu page is).stream)
            (stream_of_record r cpu o (let h = slice_get_within pages cpu page is in let n = sufficient.count in
            omega arith)).lines_rise;
      })
