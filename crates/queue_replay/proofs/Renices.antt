-- What becomes of a step whose line changes a nice value.
use Rattle.std.proofs.Common.{◌≡◌, ◌≢◌, ℕ, Option, Some, None, option_map, Result, IfOk, ℤ, inl, inr, refl, sym, ap}
use Rattle.std.proofs.Common.{◌∙◌, subst}
use Rattle.cfs_model.specs.Knobs.{KnobsView}
use Rattle.cfs_model.specs.declared.kind.Kind.TheVariants.{Strange}
use Rattle.cfs_model.specs.declared.nice_line.NiceLine.{NiceLine}
use Rattle.replay_model.specs.Deeds.{reniced}
use Rattle.replay_model.specs.Part.{Part, Entity}
use Rattle.replay_model.specs.QueueTests.{IsStrangeNice}
use Rattle.replay_model.specs.declared.step.Step.{Step}
use Rattle.queue_replay.specs.Rows.{IsDeedTried, IsTried}
use Rattle.queue_replay.specs.declared.outcome.Outcome.{Outcome}
use Rattle.queue_replay.specs.declared.outcome.Outcome.TheVariants.{Made, Failed}
use Rattle.runqueue.proofs.Parts.{put-at}

-- a task with another nice value
abbrev changed : ℤ → Entity → Entity
changed nice s = record s { nice = nice }

-- the change of a pid that doesn't stand here is the first test that a step fails
pub strange_first : (knobs : KnobsView) (cpu : ℕ) (part : Part) (step : Step) (change : NiceLine) (after : Part)
    → step.nice ≡ Some change
    → part.tasks change.pid ≡ None
    → IsTried knobs cpu (reniced (Some change) part) step after
    (Failed (record { line = step.line; kind = Strange; pid = change.pid; deadline = None }))
strange_first knobs cpu part step change after says none =
    let gone : (reniced (Some change) part).tasks change.pid ≡ None =
    put-at part.tasks change.pid (option_map (changed change.nice) (part.tasks change.pid)) change.pid refl
    ∙ ap (option_map (changed change.nice)) none in
    let strange = subst (λ o. IsStrangeNice (reniced (Some change) part) o change.pid) (sym says) (gone, refl) in
    (inl (strange, refl), (refl, refl))

-- a step without a change is its deed
pub deed_alone : {E : Type 0} (knobs : KnobsView) (cpu : ℕ) (part : Part) (step : Step) (after : Part)
    (result : Result Outcome E) → step.nice ≡ None
    → IfOk result (IsDeedTried knobs cpu part step after)
    → IfOk result (IsTried knobs cpu (reniced step.nice part) step after)
deed_alone knobs cpu part step after result says h =
    subst (λ n. IfOk result (IsTried knobs cpu (reniced n part) (record step { nice = n }) after)) (sym says) h

-- a step whose change is of one who stands here goes by its deed
pub deed_after : (knobs : KnobsView) (cpu : ℕ) (part : Part) (step : Step) (change : NiceLine) (after : Part)
    (outcome : Outcome) → step.nice ≡ Some change
    → part.tasks change.pid ≢ None → IsDeedTried knobs cpu (reniced (Some change) part) step after outcome
    → IsTried knobs cpu (reniced (Some change) part) step after outcome
deed_after knobs cpu part step change after outcome says stands h =
    go outcome h
  where
    kept : (o : Option Entity) → option_map (changed change.nice) o ≡ None → o ≡ None
    kept None e = refl
    kept (Some s) e = cc

    not_strange : (pid : ℕ) → ¬ IsStrangeNice (reniced (Some change) part) step.nice pid
    not_strange pid i =
        let j : IsStrangeNice (reniced (Some change) part) (Some change) pid =
        subst (λ o. IsStrangeNice (reniced (Some change) part) o pid) says i in
        stands (kept (part.tasks change.pid)
        (sym (put-at part.tasks change.pid (option_map (changed change.nice) (part.tasks change.pid)) change.pid refl)
        ∙ j.0))

    go : (o : Outcome) → IsDeedTried knobs cpu (reniced (Some change) part) step after o
        → IsTried knobs cpu (reniced (Some change) part) step after o
    go (Made deed) i = ((not_strange, i.0.1), i.1, i.2, i.3)
    go (Failed fault) (inl i, on) = absurd i.0
    go (Failed fault) (inr i, on) = (inr (not_strange, i.1), on)
