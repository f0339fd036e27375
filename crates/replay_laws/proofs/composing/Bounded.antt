-- A processor whose replay ends without a fault, the end test included, idles for no longer than the slack: its next
-- step or the end test is no earlier than any event in between.
use Rattle.std.proofs.Common.{◌≡◌, ℕ, ◌+◌, ◌≤◌, Bool, true, false, Option, Some, None, inl, inr, List, [], ◌∷◌, refl}
use Rattle.std.proofs.Common.{sym, ap, ◌∙◌, subst, arith}
use Rattle.std.proofs.lemmas.Bool.{cases_lt}
use Rattle.cfs_model.specs.Knobs.{KnobsView}
use Rattle.cfs_model.specs.Claimed.{Claimed}
use Rattle.replay_model.specs.QueueTests.{IsIdleTooLong}
use Rattle.replay_model.specs.Cut.{touches, steps_at, last_time_of}
use Rattle.replay_model.specs.StepAt.{step_at}
use Rattle.replay_model.specs.Record.{TimesRise}
use Rattle.replay_model.specs.Page.{ReplayStateView, IsReplay}
use Rattle.replay_model.proofs.Replayed.{first_passes}
use Rattle.replay_laws.proofs.following.Follow.{touched_steps, untouched_steps}

kept_within : (slack : ℕ) (since : Option ℕ) (x time : ℕ) → since ≡ Some x
    → ((pid : ℕ) → ¬ IsIdleTooLong slack since time pid) → time ≤ x + slack
kept_within slack since x time e h = elim
    (cases_lt (x + slack) time)
    [ inl k ↦ absurd (h 0 (subst (λ o. IsIdleTooLong slack o time 0) (sym e) (k, refl))) | inr k ↦ k ]

pub bounded : (knobs : KnobsView) (cpu : ℕ) (s : ReplayStateView) (event : Claimed) (events : List Claimed)
    (end : ReplayStateView)
    (x : ℕ) → s.since ≡ Some x → s.page.fault ≡ None
    → IsReplay knobs cpu s (steps_at cpu (event ∷ events)) end → end.page.fault ≡ None
    → TimesRise event.entry.time events
    → ((pid : ℕ) → ¬ IsIdleTooLong knobs.slack end.since (last_time_of event.entry.time events) pid)
    → event.entry.time ≤ x + knobs.slack
bounded knobs cpu s event [] end x e f r g rise last = go (touches cpu event) refl
  where
    go : (b : Bool) → touches cpu event ≡ b → event.entry.time ≤ x + knobs.slack
    go true h =
        let t = subst (λ xs. IsReplay knobs cpu s xs end) (touched_steps cpu event [] h) r in
        kept_within knobs.slack s.since x event.entry.time e
        (first_passes knobs cpu s (step_at cpu event) t.0 [] end f t.1 t.2 g).0.in_time
    go false h =
        let t : end ≡ s = subst (λ xs. IsReplay knobs cpu s xs end) (untouched_steps cpu event [] h) r in
        kept_within knobs.slack end.since x event.entry.time (ap (λ y. y.since) t ∙ e) last
bounded knobs cpu s event (next ∷ events) end x e f r g rise last =
    go (touches cpu event) refl
    (λ h. bounded knobs cpu s next events end x e f
    (subst (λ xs. IsReplay knobs cpu s xs end) (untouched_steps cpu event (next ∷ events) h) r) g rise.1 last)
  where
    go : (b : Bool) → touches cpu event ≡ b → (touches cpu event ≡ false → next.entry.time ≤ x + knobs.slack)
        → event.entry.time ≤ x + knobs.slack
    go true h later =
        let t = subst (λ xs. IsReplay knobs cpu s xs end) (touched_steps cpu event (next ∷ events) h) r in
        kept_within knobs.slack s.since x event.entry.time e
        (first_passes knobs cpu s (step_at cpu event) t.0 (steps_at cpu (next ∷ events)) end f t.1 t.2 g).0.in_time
    go false h later = let a : next.entry.time ≤ x + knobs.slack = later h in let b : event.entry.time ≤
        next.entry.time = rise.0 in omega arith
