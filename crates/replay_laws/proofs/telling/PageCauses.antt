-- What a processor's page says of an event behind those against which it says nothing: that the processor had idled for
-- too long, that a test fails there, or neither, and then the event's step passes. A fault of this line is of this
-- event's step, since lines rise.
use Rattle.std.proofs.Common.{◌≡◌, ℕ, ◌<◌, Bool, true, false, ◌+◌, Option, Some, None, ◌⊎◌, inl, inr, List, [], ◌∷◌}
use Rattle.std.proofs.Common.{refl, sym, ap, ◌∙◌, subst, arith}
use Rattle.cfs_model.specs.Knobs.{KnobsView}
use Rattle.cfs_model.specs.Claimed.{Claimed}
use Rattle.replay_model.specs.Noted.{PageView}
use Rattle.replay_model.specs.QueueTests.{IsIdleTooLong}
use Rattle.replay_model.specs.Cut.{touches, steps_at}
use Rattle.replay_model.specs.StepAt.{step_at}
use Rattle.replay_model.specs.Page.{ReplayStateView, FailsStep, IsReplay}
use Rattle.replay_model.specs.Record.{TimesRise, LinesRise}
use Rattle.replay_model.specs.Cause.{FaultCause, FailsOn}
use Rattle.replay_laws.specs.Telling.{IdlesBefore, FailsHere, IsPageCause}
use Rattle.replay_model.proofs.Options.{no_some, same_some}
use Rattle.replay_laws.proofs.telling.Deadlines.{without_deadline}
use Rattle.replay_laws.proofs.telling.FrontReplay.{PassesFirst, FailsFirst, step_fault_of, first_step, away}
use Rattle.replay_laws.proofs.telling.FrontReplay.{no_fault_here}
use Rattle.replay_laws.proofs.telling.Fronts.{Back}
use Rattle.replay_laws.proofs.telling.IdleFaults.{idling_is_told, told_idles}
use Rattle.replay_laws.proofs.composing.StepLines.{rise_from}
use Rattle.replay_laws.proofs.telling.WholeReplay.{PageFault}
use Rattle.replay_model.specs.declared.page.StepFault.{StepFault}

-- a replay has no fault of a line below those of its steps, but for one with a deadline
no_later_fault : (knobs : KnobsView) (cpu : ℕ) (s : ReplayStateView) (events : List Claimed) (end : ReplayStateView)
    (slack time line : ℕ) (o : Option StepFault) (fault : StepFault) → s.page.fault ≡ None → LinesRise line events
    → IsReplay knobs cpu s (steps_at cpu events) end → PageFault slack time end o → o ≡ Some fault
    → fault.deadline ≡ None → fault.line ≡ line → ⊥
no_later_fault knobs cpu s [] end slack time line o fault n rise r is e timeless at = go (is.from fault e)
  where
    go : (end.page.fault ≡ Some fault)
        ⊎ ((x : ℕ) × (end.page.fault ≡ None) × (end.since ≡ Some x) × (fault.deadline ≡ Some (x + slack))
        × (x + slack < time)) → ⊥
    go (inl h) = no_some fault (sym n ∙ ap (λ y. y.page.fault) (sym r) ∙ h)
    go (inr h) = no_some (h.0 + slack) (sym timeless ∙ h.3)
no_later_fault knobs cpu s (event ∷ events) end slack time line o fault n rise r is e timeless at =
    go (touches cpu event) refl
    (λ next n r. no_later_fault knobs cpu next events end slack time line o fault n
    (rise_from event.entry.line line events rise.1 (let h : line < event.entry.line = rise.0 in omega arith)) r is e
    timeless at)
  where
    failed : FailsFirst knobs cpu s event end → ⊥
    failed p =
        let here = step_fault_of knobs cpu s (step_at cpu event) p.failed p.fails in
        let same : here ≡ fault = same_some o here fault (is.of_step here p.last) e in
        let line_is : event.entry.line ≡ line = ap (λ (x : StepFault). x.line) same ∙ at in
        let above : line < event.entry.line = rise.0 in
        omega arith

    go : (b : Bool) → touches cpu event ≡ b
        → ((next : ReplayStateView) → next.page.fault ≡ None → IsReplay knobs cpu next (steps_at cpu events) end → ⊥)
        → ⊥
    go false t rest = rest s n (away knobs cpu s event events end t r)
    go true t rest = elim (first_step knobs cpu s event events end n t r) [
      | inl p ↦ rest p.next (ap (λ x. x.fault) p.passes.page) p.replay
      | inr p ↦ failed p
    ]

-- the test of an event that fails on a replay's part
pub record FailsThere (knobs : KnobsView) (cpu : ℕ) (mid : ReplayStateView) (event : Claimed) (cause : FaultCause)
    : Type 0 where
  pub failed : ReplayStateView
  pub fails : FailsStep knobs cpu mid (step_at cpu event) failed
  pub on : FailsOn knobs cpu mid.part (step_at cpu event) cause.kind cause.pid
  pub here : cause.cpu ≡ cpu

module _ (knobs : KnobsView) (start : ℕ) (before rest : List Claimed) (event : Claimed) (cpu : ℕ) (page : PageView)
    (mid : ReplayStateView) (none : mid.page.fault ≡ None)
    (b : Back knobs start before (event ∷ rest) cpu page mid) where
  pub idling_of_page : TimesRise event.entry.time rest → IdlesBefore event page.fault
      → IsIdleTooLong knobs.slack mid.since event.entry.time 0
  idling_of_page rise h = go page.fault refl h
    where
      go : (o : Option StepFault) → page.fault ≡ o → IdlesBefore event o
          → IsIdleTooLong knobs.slack mid.since event.entry.time 0
      go None e k = absurd k
      go (Some fault) e k =
          let d = told_idles knobs cpu mid (event ∷ rest) b.end event.entry.time event.entry.time k.0 page.fault none
          k.2 (omega arith) ((omega arith), rise) b.replay b.fault (fault, e, k.1) in
          subst (λ o. IsIdleTooLong knobs.slack o event.entry.time 0) (sym d.idles)
          (subst (λ x. x < event.entry.time) d.deadline_is d.late, refl)

  pub page_of_idling : TimesRise event.entry.time rest → IsIdleTooLong knobs.slack mid.since event.entry.time 0
      → IdlesBefore event page.fault
  page_of_idling rise h = go mid.since refl h
    where
      go : (o : Option ℕ) → mid.since ≡ o → IsIdleTooLong knobs.slack o event.entry.time 0
          → IdlesBefore event page.fault
      go None e k = absurd k
      go (Some x) e k =
          let f = idling_is_told knobs cpu mid (event ∷ rest) b.end event.entry.time x page.fault none e k.0
          ((omega arith), rise) b.replay b.fault in
          subst (IdlesBefore event) (sym f.1) (x + knobs.slack, f.2, k.0)

  pub passes_there : touches cpu event ≡ true → (¬ IdlesBefore event page.fault) → (¬ FailsHere event page.fault)
      → PassesFirst knobs cpu mid event rest b.end
  passes_there t idles here = elim (first_step knobs cpu mid event rest b.end none t b.replay) [
    | inl p ↦ p
    | inr p ↦ absurd (no_fault_here knobs cpu mid event b.end page.fault b.fault.of_step idles here p)
  ]

  pub fails_there : (cause : FaultCause) → touches cpu event ≡ true → LinesRise event.entry.line rest
      → IsPageCause event cpu page cause → FailsThere knobs cpu mid event cause
  fails_there cause t rise c = elim (first_step knobs cpu mid event rest b.end none t b.replay) [
    | inl p ↦ absurd (no_later_fault knobs cpu p.next rest b.end knobs.slack _ event.entry.line page.fault c.fault
        (ap (λ x. x.fault) p.passes.page) rise p.replay b.fault c.is_fault c.here.0 c.here.1)
    | inr p ↦ failed p
  ]
    where
      failed : FailsFirst knobs cpu mid event b.end → FailsThere knobs cpu mid event cause
      failed p =
          let fault = step_fault_of knobs cpu mid (step_at cpu event) p.failed p.fails in
          let same : c.fault ≡ fault = same_some page.fault c.fault fault c.is_fault (b.fault.of_step fault p.last) in
          let kind : p.fails.kind ≡ cause.kind = sym (ap (λ x. x.kind) c.is ∙ ap (λ (x : StepFault). x.kind) same) in
          let pid : p.fails.pid ≡ cause.pid = sym (ap (λ x. x.pid) c.is ∙ ap (λ (x : StepFault). x.pid) same) in
          let on = without_deadline knobs cpu mid (step_at cpu event) p.fails.kind p.fails.pid p.fails.fails
          (sym (ap (λ (x : StepFault). x.deadline) same) ∙ c.here.0) in
          record {
            failed = p.failed;
            fails = p.fails;
            on = subst (λ k. FailsOn knobs cpu mid.part (step_at cpu event) k cause.pid) kind
                (subst (λ n. FailsOn knobs cpu mid.part (step_at cpu event) p.fails.kind n) pid on);
            here = ap (λ x. x.cpu) c.is;
          }
