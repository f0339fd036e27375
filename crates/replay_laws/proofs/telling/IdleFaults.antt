-- Where a page has a fault with a deadline before some events, the replay up to them has idled since that much before,
-- and where the replay has idled for too long at one of them, the page has that fault: a since that begins later is
-- later than the deadline.
use Rattle.std.proofs.Common.{◌≡◌, ℕ, ◌+◌, ◌<◌, ◌≤◌, Bool, true, false, Option, Some, None, ◌⊎◌, inl, inr, List, []}
use Rattle.std.proofs.Common.{◌∷◌, refl, sym, ap, ◌∙◌, subst, arith}
use Rattle.cfs_model.specs.Knobs.{KnobsView}
use Rattle.cfs_model.specs.Claimed.{Claimed}
use Rattle.replay_model.specs.QueueTests.{IsIdleTooLong}
use Rattle.replay_model.specs.Cut.{touches, steps_at, last_time_of}
use Rattle.replay_model.specs.StepAt.{step_at}
use Rattle.replay_model.specs.Record.{TimesRise}
use Rattle.replay_model.specs.Page.{ReplayStateView, IsReplay}
use Rattle.replay_model.proofs.Options.{no_some, same_some}
use Rattle.replay_laws.proofs.telling.Deadlines.{IsDue, with_deadline, idling_fails}
use Rattle.replay_laws.proofs.following.Follow.{since_begun}
use Rattle.replay_laws.proofs.telling.FrontReplay.{FailsFirst, step_fault_of, first_step, away}
use Rattle.replay_laws.proofs.telling.WholeReplay.{PageFault}
use Rattle.replay_model.specs.declared.page.StepFault.{StepFault}

-- a fault with this deadline
abbrev pub HasDeadline : Option StepFault → ℕ → Type 0
HasDeadline o deadline = (fault : StepFault) × (o ≡ Some fault) × (fault.deadline ≡ Some deadline)

-- a processor that has idled for too long at a time has that fault by the next event or at the end
pub idling_is_told : (knobs : KnobsView) (cpu : ℕ) (s : ReplayStateView) (events : List Claimed) (end : ReplayStateView)
    (time x : ℕ) (o : Option StepFault) → s.page.fault ≡ None → s.since ≡ Some x → x + knobs.slack < time
    → TimesRise time events → IsReplay knobs cpu s (steps_at cpu events) end
    → PageFault knobs.slack (last_time_of time events) end o → HasDeadline o (x + knobs.slack)
idling_is_told knobs cpu s [] end time x o n e late rise r is =
    is.of_end x (ap (λ y. y.page.fault) r ∙ n) (ap (λ y. y.since) r ∙ e) late
idling_is_told knobs cpu s (event ∷ events) end time x o n e late rise r is = go (touches cpu event) refl
    (λ r. idling_is_told knobs cpu s events end event.entry.time x o n e due rise.1 r is)
  where
    due : x + knobs.slack < event.entry.time
    due = let h : time ≤ event.entry.time = rise.0 in omega arith

    go : (b : Bool) → touches cpu event ≡ b
        → (IsReplay knobs cpu s (steps_at cpu events) end → HasDeadline o (x + knobs.slack))
        → HasDeadline o (x + knobs.slack)
    go false t later = later (away knobs cpu s event events end t r)
    go true t later = elim (first_step knobs cpu s event events end n t r) [
      | inl p ↦ absurd (p.passes.in_time 0 (subst (λ y. IsIdleTooLong knobs.slack y event.entry.time 0) (sym e)
          (due, refl)))
      | inr p ↦ (
        step_fault_of knobs cpu s (step_at cpu event) p.failed p.fails,
        is.of_step (step_fault_of knobs cpu s (step_at cpu event) p.failed p.fails) p.last,
        idling_fails knobs cpu s (step_at cpu event) p.fails.kind p.fails.pid x p.fails.fails e due,
      )
    ]

-- what a fault that is due before some events says of the replay up to them
pub told_idles : (knobs : KnobsView) (cpu : ℕ) (s : ReplayStateView) (events : List Claimed) (end : ReplayStateView)
    (time bound deadline : ℕ) (o : Option StepFault) → s.page.fault ≡ None → deadline < bound → bound ≤ time
    → TimesRise time events → IsReplay knobs cpu s (steps_at cpu events) end
    → PageFault knobs.slack (last_time_of time events) end o → HasDeadline o deadline
    → IsDue knobs.slack s.since deadline bound
told_idles knobs cpu s [] end time bound deadline o n below above rise r is f = go (is.from f.0 f.1)
  where
    go : (end.page.fault ≡ Some f.0)
        ⊎ ((x : ℕ) × (end.page.fault ≡ None) × (end.since ≡ Some x) × (f.0.deadline ≡ Some (x + knobs.slack))
        × (x + knobs.slack < time))
        → IsDue knobs.slack s.since deadline bound
    go (inl h) = no_some f.0 (sym n ∙ ap (λ y. y.page.fault) (sym r) ∙ h)
    go (inr h) = record {
      from = h.0;
      idles = ap (λ y. y.since) (sym r) ∙ h.2;
      deadline_is = same_some f.0.deadline deadline (h.0 + knobs.slack) f.2 h.3;
      late = below;
    }
told_idles knobs cpu s (event ∷ events) end time bound deadline o n below above rise r is f = go (touches cpu event)
    refl
    (λ next n r. told_idles knobs cpu next events end event.entry.time bound deadline o n below later rise.1 r is f)
  where
    later : bound ≤ event.entry.time
    later = let h : time ≤ event.entry.time = rise.0 in omega arith

    begun : (x : ℕ) (since : Option ℕ) → (since ≡ Some x) ⊎ (x ≡ event.entry.time) → deadline ≡ x + knobs.slack
        → IsDue knobs.slack since deadline bound
    begun x since (inl e) h = record { from = x; idles = e; deadline_is = h; late = below }
    begun x since (inr e) h = absurd (omega arith)

    failed : FailsFirst knobs cpu s event end → IsDue knobs.slack s.since deadline bound
    failed p =
        let fault = step_fault_of knobs cpu s (step_at cpu event) p.failed p.fails in
        let same : fault ≡ f.0 = same_some o fault f.0 (is.of_step fault p.last) f.1 in
        let d = with_deadline knobs cpu s (step_at cpu event) p.fails.kind p.fails.pid deadline p.fails.fails
        (ap (λ (x : StepFault). x.deadline) same ∙ f.2) in
        record { from = d.from; idles = d.idles; deadline_is = d.deadline_is; late = below }

    go : (b : Bool) → touches cpu event ≡ b
        → ((next : ReplayStateView) → next.page.fault ≡ None → IsReplay knobs cpu next (steps_at cpu events) end
        → IsDue knobs.slack next.since deadline bound)
        → IsDue knobs.slack s.since deadline bound
    go false t rest = rest s n (away knobs cpu s event events end t r)
    go true t rest = elim (first_step knobs cpu s event events end n t r) [
      | inl p ↦ (let d = rest p.next (ap (λ x. x.fault) p.passes.page) p.replay in
          begun d.from s.since
          (since_begun s.since event.entry.time p.next.part p.next.since p.passes.since d.from d.idles) d.deadline_is)
      | inr p ↦ failed p
    ]
