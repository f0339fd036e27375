-- A replay that made the steps before a line has the processor as it is just before that line.
use Rattle.std.proofs.Common.{◌≡◌, ℕ, ◌+◌, ◌<◌, ◌≤◌, Option, Some, None, inl, inr, length, refl, subst, arith}
use Rattle.std.proofs.lemmas.Bool.{cases_lt}
use Rattle.std.specs.Option.{IfSome}
use Rattle.std.specs.Prelude.{slice_get}
use Rattle.cfs_model.specs.Knobs.{KnobsView}
use Rattle.fault_bounds.specs.Bounds.{IsBefore, IsMoment, steps_before}
use Rattle.queue_replay.specs.Made.{GoesOn, IsPartAfter, state_of}
use Rattle.queue_replay.specs.declared.state.State.TheVariants.{Going}
use Rattle.replay_model.specs.Cut.{StreamView}
use Rattle.replay_model.specs.Noted.{PageView}
use Rattle.replay_model.specs.Part.{Part}
use Rattle.replay_model.specs.declared.page.StepFault.{StepFault}
use Rattle.replay_model.specs.declared.step.Step.{Step}
use Rattle.sched_record.specs.Record.{RecordView}
use Rattle.sched_record.specs.Stream.{cut_of}

-- of a replay that can go on no step has failed
pub going_none : (o : Option StepFault) (made steps : ℕ) → state_of o made steps ≡ Going → o ≡ None
going_none None made steps e = refl
going_none (Some fault) made steps e = absurd cc

-- so it made all steps that it was to make
pub made_all : (stream : StreamView) (knobs : KnobsView) (from : ℕ) (before : PageView) (count made : ℕ)
    (page : PageView) → GoesOn stream knobs from before count made page → from ≡ 0 → page.fault ≡ None
    → count ≤ length stream.steps → made ≡ count
made_all stream knobs from before count made page g start none within =
    let all = g.all none in omega (arith, all, start, within)

pub less_than : (a b : ℕ) → a ≤ b → (a ≡ b → ⊥) → a < b
less_than a b most apart = elim (cases_lt a b) [
  | inl below ↦ below
  | inr above ↦ absurd (apart (omega (arith, most, above)))
]

module _ (r : RecordView) (knobs : KnobsView) (cpu line : ℕ) (stream : StreamView) (own : KnobsView) (made : ℕ)
    (stream_is : stream ≡ cut_of r cpu) (own_is : own ≡ knobs) (made_is : made ≡ steps_before line stream.steps) where
  -- its part is the processor's
  pub part_before : (part : Part) (since : Option ℕ) → IsPartAfter stream own made part since
      → IsBefore knobs r cpu line part since
  part_before part since p =
      subst (λ (s : StreamView). IsPartAfter s knobs (steps_before line s.steps) part since) stream_is
      (subst (λ n. IsPartAfter stream knobs n part since) made_is
      (subst (λ k. IsPartAfter stream k made part since) own_is p))

  pub since_before : (answer : Option ℕ) → ((part : Part) × IsPartAfter stream own made part answer)
      → IfSome answer (λ since. (part : Part) × IsBefore knobs r cpu line part (Some since))
  since_before None p = tt
  since_before (Some since) p = (p.0, part_before p.0 (Some since) p.1)

  -- and the step behind those that were made is what it sees of the event
  pub moment_is : (part : Part) (step : Step) → ((since : Option ℕ) × IsPartAfter stream own made part since)
      → slice_get stream.steps made ≡ Some step → step.line ≡ line → IsMoment knobs r cpu line part step
  moment_is part step p there on = record {
    since = p.0;
    before = part_before part p.0 p.1;
    step_is = (
      subst (λ (s : StreamView). slice_get s.steps (steps_before line s.steps) ≡ Some step) stream_is
          (subst (λ n. slice_get stream.steps n ≡ Some step) made_is there),
      on,
    );
  }

pub if_some : {A : Type 0} (o : Option A) (P Q : A → Type 0) → ((a : A) → P a → Q a) → IfSome o P → IfSome o Q
if_some None P Q f h = tt
if_some (Some a) P Q f h = f a h
