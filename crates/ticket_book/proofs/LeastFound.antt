-- What pages that suffice at the greatest settings tell of a record is its least settings.
use Rattle.std.proofs.Common.{◌≡◌, ℕ, ◌<◌, ◌≤◌, Some, None, List, length, sym, ap, ◌∙◌, subst}
use Rattle.std.proofs.lemmas.Option.{same_Some, slice_get_within}
use Rattle.cfs_model.specs.Laws.{GreatestTellBadAtAll}
use Rattle.cfs_model.specs.Least.{AreLeast, greatest_settings}
use Rattle.cfs_model.specs.Knobs.{AreInRange}
use Rattle.cfs_model.specs.Start.{start_machine}
use Rattle.replay_laws.specs.FirstFaults.{FaultIsFirstBad}
use Rattle.replay_laws.specs.Closing.{PagesTellFault, PagesTellRun, SilentPagesAreDone}
use Rattle.replay_laws.specs.Telling.{SayNothing}
use Rattle.replay_laws.specs.Sufficing.{SufficesAmong}
use Rattle.replay_model.specs.Cut.{StreamView}
use Rattle.replay_model.specs.Needs.{IsPageNeeding, largest}
use Rattle.replay_laws.specs.LeastSettings.{PagesTellLeast}
use Rattle.replay_model.specs.Noted.{PageView}
use Rattle.queue_replay.specs.Replay.{ReplayView}
use Rattle.sched_record.specs.Record.{RecordView, IsRecordInOrder}
use Rattle.sched_record.specs.Stream.{cut_of}
use Rattle.ticket_book.specs.Faultless.{AreFaultless, IsFaultlessPageOf}
use Rattle.ticket_book.specs.LeastAnswer.{IsLeastAnswer}
use Rattle.ticket_book.specs.NeedsOfPages.{HaveNeeds, needs_at}
use Rattle.ticket_book.specs.SaidEvents.{events_of}
use Rattle.ticket_book.specs.Told.{Tell, pages_of, view_at}
use Rattle.ticket_book.specs.Whole.{AreSufficient}
use Rattle.cfs_model.proofs.BadAtAll.{at_most_greatest}
use Rattle.ticket_book.proofs.LargestNeeds.{needs_there}
use Rattle.ticket_book.proofs.Verdicts.{fault_is_verdict, in_record, page_there, suffices_among}
use Rattle.replay_model.specs.declared.first_fault.FirstFault.{FirstFault}
use Rattle.ticket_book.specs.declared.least_settings.LeastSettings.TheVariants.{Fault}

module _ (r : RecordView) (pages : List ReplayView) (sufficient : AreSufficient greatest_settings r pages)
    (o : IsRecordInOrder r) where
  -- what they say first is what is wrong, and no settings in range help
  pub bad_of : PagesTellFault → FaultIsFirstBad → GreatestTellBadAtAll → (fault : FirstFault)
      → Tell (view_at (pages_of pages)) (length pages) r.tasks (events_of r) (Some fault) → IsLeastAnswer r (Fault
      fault)
  bad_of faults first_bad at_all fault tell =
      let first = fault_is_verdict greatest_settings r pages sufficient faults first_bad o fault tell in
      (at_all r.start (start_machine r.start r.floors r.tasks) (events_of r) fault.line first.line, first)

  module _ (nothing : SayNothing (view_at (pages_of pages)) (length pages) r.tasks (events_of r)) (have : HaveNeeds
      pages)
      (done : SilentPagesAreDone) where
    -- each page suffices
    abbrev suffice : (cpu : ℕ) → cpu < length pages
        → SufficesAmong greatest_settings r.start r.floors r.tasks (events_of r) (length pages) (view_at (pages_of
        pages)) cpu
    suffice cpu h =
        let p = page_there pages cpu h in
        suffices_among greatest_settings r pages cpu p.0 (sufficient.each cpu p.0 p.1) p.2

    -- where they say nothing, each has the needs of its processor's whole replay
    needing : (cpu : ℕ) → cpu < length pages
        → IsPageNeeding (cut_of r cpu) greatest_settings (view_at (pages_of pages) cpu) (needs_at pages cpu)
    needing cpu h =
        let p = page_there pages cpu h in
        let page = p.0 in
        let own = sufficient.each cpu page p.1 in
        let whole = done greatest_settings r.start r.floors r.tasks (events_of r) (length pages) (view_at (pages_of
        pages))
        (in_record greatest_settings r pages sufficient o) suffice nothing cpu h in
        let fault : page.page.fault ≡ None = ap (λ (v : PageView). v.fault) (sym p.2) ∙ whole.0 in
        let all : length page.stream.steps ≤ page.made =
        subst (λ (s : StreamView). length s.steps ≤ page.made) (sym own.stream) whole.1 in
        subst (λ n. IsPageNeeding (cut_of r cpu) greatest_settings (view_at (pages_of pages) cpu) n)
        (sym (needs_there pages cpu page p.1))
        (subst (λ v. IsPageNeeding (cut_of r cpu) greatest_settings v page.needs) (sym p.2)
        (subst (λ s. IsPageNeeding s greatest_settings page.page page.needs) own.stream
        (subst (λ k. IsPageNeeding page.stream k page.page page.needs) own.knobs_are (have cpu page p.1 fault all))))

    -- and none has a fault
    pub faultless_of : AreFaultless r pages
    faultless_of = record {
      count = sufficient.count;
      each = λ cpu page at. (let h = slice_get_within pages cpu page at in
          let p = page_there pages cpu h in
          subst (IsFaultlessPageOf r cpu) (same_Some p.0 page (sym p.1 ∙ at)) (faultless cpu h));
    }
      where
        faultless : (cpu : ℕ) → (h : cpu < length pages) → IsFaultlessPageOf r cpu (page_there pages cpu h).0
        faultless cpu h =
            let p = page_there pages cpu h in
            let own = sufficient.each cpu p.0 p.1 in
            let whole = done greatest_settings r.start r.floors r.tasks (events_of r) (length pages) (view_at (pages_of
            pages))
            (in_record greatest_settings r pages sufficient o) suffice nothing cpu h in
            record {
              own = record { stream = own.stream; knobs_are = own.knobs_are };
              none = ap (λ (v : PageView). v.fault) (sym p.2) ∙ whole.0;
              all = whole.1;
            }

    module _ (tells : PagesTellLeast) where
      -- and the largest needs are the least settings
      pub least_of : AreLeast r.start (start_machine r.start r.floors r.tasks) (events_of r)
          (largest (needs_at pages) (length pages))
      least_of =
          tells greatest_settings r.start r.floors r.tasks (events_of r) (length pages) (view_at (pages_of pages))
          (needs_at pages)
          (in_record greatest_settings r pages sufficient o) needing nothing.tickets nothing.births

      -- which are at most the greatest, at which the events are a run
      pub in_range : PagesTellRun → AreInRange (largest (needs_at pages) (length pages))
      in_range runs =
          let most = least_of.least greatest_settings
          (runs greatest_settings r.start r.floors r.tasks (events_of r) (length pages) (view_at (pages_of pages))
          (in_record greatest_settings r pages sufficient o) suffice nothing) in
          at_most_greatest (largest (needs_at pages) (length pages)) most
