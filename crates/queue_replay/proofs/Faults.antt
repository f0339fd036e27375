-- The fault that a step leaves on the page, and a state whose step was undone.
use Rattle.std.proofs.Common.{◌≡◌, ◌≢◌, ℕ, ◌+◌, Option, None, inl, refl, sym, ap, ◌∙◌, subst, All, List}
use Rattle.replay_model.specs.Noted.{PageView}
use Rattle.replay_model.specs.Page.{ReplayStateView, FailsStep, FailsTest, deadline_of, with_fault}
use Rattle.replay_model.specs.Part.{Part}
use Rattle.cfs_model.specs.Knobs.{KnobsView}
use Rattle.cfs_model.specs.declared.kind.Kind.{Kind}
use Rattle.cfs_model.specs.declared.kind.Kind.TheVariants.{IdleTooLong}
use Rattle.replay_model.specs.declared.page.StepFault.{StepFault}
use Rattle.replay_model.specs.declared.page.Tally.{Tally}
use Rattle.replay_model.specs.declared.step.Step.{Step}
use Rattle.queue_replay.specs.Counting.{page_draft_view}
use Rattle.queue_replay.specs.FirstTest.{IsOn}
use Rattle.queue_replay.specs.Indices.{pids_of}
use Rattle.queue_replay.specs.Stretches.{IsWithin}
use Rattle.queue_replay.specs.ReplayState.{replay_state_view, IsGoing, IsPassed, IsStepped, IsUndone}
use Rattle.runqueue.specs.Queue.{runqueue_view}
use Rattle.queue_replay.specs.declared.replay_state.ReplayState.{ReplayState}

-- a fault of another kind has no deadline
no_deadline : (kind : Kind) (slack : ℕ) (since : Option ℕ) → kind ≢ IdleTooLong
    → None ≡ deadline_of kind slack since
no_deadline IdleTooLong slack since ne = absurd (ne refl)
no_deadline _ slack since ne = refl

-- a step that fails a later test than the first
pub fails_later : (knobs : KnobsView) (cpu : ℕ) (before : ReplayStateView) (step : Step) (fault : StepFault)
    → FailsTest knobs cpu before step fault.kind fault.pid → IsOn step.line fault → fault.kind ≢ IdleTooLong
    → FailsStep knobs cpu before step (with_fault before fault)
fails_later knobs cpu before step fault fails on later = record {
  kind = fault.kind;
  pid = fault.pid;
  fails = fails;
  result = ap (λ l. with_fault before (record fault { line = l })) on.0
      ∙ ap (λ d. with_fault before (record fault { line = step.line; deadline = d }))
      (on.1 ∙ no_deadline fault.kind knobs.slack before.since later);
}

-- a step that passes
pub passed : (knobs : KnobsView) (cpu : ℕ) (old between new : ReplayState) (step : Step)
    → IsPassed knobs cpu old step between
    → new ≡ record between { made = old.made + 1 }
    → IsStepped knobs cpu (replay_state_view old) old.needs step new
passed knobs cpu old between new step p e =
    subst (λ (c : ReplayState). IsStepped knobs cpu (replay_state_view old) old.needs step c) (sym e)
    (inl (
      p.passes,
      record {
        fault = ap (λ x. x.fault) p.passes.1.passes.page;
        within = p.within;
        by_rows = p.by_rows;
      },
    ))

-- a step that was undone
pub undone_state : (old new : ReplayState) → IsUndone old new → replay_state_view new ≡ replay_state_view old
undone_state old new g =
    ap (λ (p : Part). record { part = p; since = new.since; page = page_draft_view new.draft }) g.part
    ∙ ap (λ (o : Option ℕ). record { part = runqueue_view old.queue; since = o; page = page_draft_view new.draft })
    g.since
    ∙ ap (λ (p : PageView). record { part = runqueue_view old.queue; since = old.since; page = p }) g.noted

pub undone_going : (old new : ReplayState) → IsUndone old new → IsGoing old → IsGoing new
undone_going old new g h =
    let W : ℕ → List Tally → Type 0 = λ n l. All (IsWithin n) l in
    record {
      fault = ap (λ p. p.fault) g.noted ∙ h.fault;
      within = subst (λ n. W n new.draft.tallies.list.items) (sym g.made)
          (subst (W old.made) (sym (ap (λ p. p.tallies) g.noted)) h.within);
      by_rows = ap (λ p. pids_of p.tallies) g.noted ∙ h.by_rows ∙ sym g.pids;
    }

pub undone_both : (old mid new : ReplayState) → IsUndone old mid → IsUndone mid new → IsUndone old new
undone_both old mid new g h = record {
  made = h.made ∙ g.made;
  part = h.part ∙ g.part;
  pids = h.pids ∙ g.pids;
  since = h.since ∙ g.since;
  needs = h.needs ∙ g.needs;
  noted = h.noted ∙ g.noted;
}
