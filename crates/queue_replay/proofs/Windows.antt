-- A replay by steps that are handed in: by none, by one more, and by those behind one that failed.
use Rattle.std.proofs.Common.{◌≡◌, ℕ, ◌+◌, ◌<◌, ◌≤◌, List, [], ◌∷◌, length, take, drop, get_or, Option, Some, None}
use Rattle.std.proofs.Common.{IsSome, inl, inr, refl, sym, ap, ◌∙◌, subst, false, true≢false, is_some, ◌⊎◌, arith}
use Rattle.std.proofs.Math.Nat.{zero-max}
use Rattle.std.proofs.lemmas.List.{take_all, take-append-drop, length-take}
use Rattle.cfs_model.specs.Knobs.{KnobsView, value_at}
use Rattle.cfs_model.specs.Least.{larger}
use Rattle.cfs_model.specs.declared.setting.Setting.{Setting}
use Rattle.cfs_model.specs.declared.setting.Setting.TheVariants.{Granularity, Credit, Debit, Slack, Drift}
use Rattle.cfs_model.proofs.LeastSettings.{same_settings, larger_nothing, larger_of_three}
use Rattle.replay_model.specs.Needs.{only_slack}
use Rattle.replay_model.specs.Page.{ReplayStateView, PassesStep, FailsStep, IsReplayStep, IsReplay}
use Rattle.replay_model.specs.declared.page.StepFault.{StepFault}
use Rattle.replay_model.specs.declared.step.Step.{Step}
use Rattle.replay_model.proofs.Replayed.{IsReplay-append}
use Rattle.queue_replay.specs.ReplayState.{replay_state_view, IsGoing, IsStepped}
use Rattle.queue_replay.specs.Windowed.{WindowedView, GoesThrough, StopsWithin, windowed_by}
use Rattle.queue_replay.specs.declared.replay_state.ReplayState.{ReplayState}
use Rattle.queue_replay.proofs.Needed.{needing_more}
use Rattle.queue_replay.proofs.Replays.{replay_more, left_fault}

larger_none : (needs : KnobsView) → larger needs (only_slack 0) ≡ needs
larger_none needs = sym (larger_nothing needs) ∙ same_settings (larger (only_slack 0) needs) needs each
  where
    each : (which : Setting) → value_at (larger (only_slack 0) needs) which ≡ value_at needs which
    each Granularity = zero-max needs.granularity
    each Credit = zero-max needs.credit
    each Debit = zero-max needs.debit
    each Slack = zero-max needs.slack
    each Drift = zero-max needs.drift

-- by no steps it stays where it is
pub through_none : (at : WindowedView) → GoesThrough at [] at
through_none at = record {
  cpu = refl;
  knobs = refl;
  replay = refl;
  at_most = omega arith;
  raises = λ _. record {
    here = only_slack 0;
    passes = (refl, refl);
    needs = sym (larger_none at.needs);
    all = omega arith;
  };
}

-- so far through a list of steps, and whether it can go on
pub record IsThrough (cpu : ℕ) (knobs : KnobsView) (steps : List Step) (first : ReplayState) (index : ℕ)
    (state : ReplayState) : Type 0 where
  pub through : GoesThrough (windowed_by cpu knobs first) (take index steps) (windowed_by cpu knobs state)
  pub going : state.draft.fault ≡ None → IsGoing state

-- by one more, where none failed
pub through_more : (cpu : ℕ) (knobs : KnobsView) (steps : List Step) (first : ReplayState) (index : ℕ)
    (state : ReplayState) (step : Step) (new : ReplayState)
    → IsThrough cpu knobs steps first index state → state.draft.fault ≡ None
    → index < length steps → step ≡ get_or steps index step
    → IsStepped knobs cpu (replay_state_view state) state.needs step new → new.made ≡ state.made + 1
    → IsThrough cpu knobs steps first (index + 1) new
through_more cpu knobs steps first index state step new t none within is stepped made = go stepped
  where
    start : ReplayStateView
    start = replay_state_view first

    more : PassesStep knobs cpu (replay_state_view state) step (replay_state_view new)
        ⊎ FailsStep knobs cpu (replay_state_view state) step (replay_state_view new)
        → IsReplay knobs cpu start (take (index + 1) steps) (replay_state_view new)
    more h = replay_more knobs cpu start steps index (replay_state_view state) step (replay_state_view new) within is
        t.through.replay none h

    longer : length (take (index + 1) steps) ≡ length (take index steps) + 1
    longer = omega (arith, length-take {A = Step})

    go : IsStepped knobs cpu (replay_state_view state) state.needs step new
        → IsThrough cpu knobs steps first (index + 1) new
    go (inl p) = record {
      through = record {
        cpu = refl;
        knobs = refl;
        replay = more (inl p.0.1.passes);
        at_most = (let h = t.through.at_most in omega (arith, longer));
        raises = λ _.
            let r = t.through.raises none in
            record {
              here = larger r.here p.0.0;
              passes = needing_more knobs cpu start steps index (replay_state_view state) r.here step
                  (replay_state_view new) (larger r.here p.0.0) within is r.passes (p.0.0, p.0.1, refl);
              needs = p.0.2 ∙ ap (λ n. larger n p.0.0) r.needs ∙ larger_of_three first.needs r.here p.0.0;
              all = (let h = r.all in omega (arith, longer));
            };
      };
      going = λ _. p.1;
    }
    go (inr f) = record {
      through = record {
        cpu = refl;
        knobs = refl;
        replay = more (inr f);
        at_most = (let h = t.through.at_most in omega (arith, longer));
        raises = λ gone. absurd (left_fault knobs cpu (replay_state_view state) step (replay_state_view new) f gone);
      };
      going = λ gone. absurd (left_fault knobs cpu (replay_state_view state) step (replay_state_view new) f gone);
    }

faulted_stays : (knobs : KnobsView) (cpu : ℕ) (at : ReplayStateView) (steps : List Step) (fault : StepFault)
    → at.page.fault ≡ Some fault → IsReplay knobs cpu at steps at
faulted_stays knobs cpu at [] fault e = refl
faulted_stays knobs cpu at (step ∷ steps) fault e = (
  at,
  subst (λ o. IsReplayStep knobs cpu o at step at) (sym e) refl,
  faulted_stays knobs cpu at steps fault e,
)

pub no_fault : (o : Option StepFault) → is_some o ≡ false → o ≡ None
no_fault None h = refl
no_fault (Some fault) h = absurd (true≢false h)

fault_of : (o : Option StepFault) → IsSome o → (fault : StepFault) × (o ≡ Some fault)
fault_of (Some fault) h = (fault, refl)
fault_of None h = absurd (true≢false (sym h))

-- the steps behind one that failed change nothing
pub through_failed : (cpu : ℕ) (knobs : KnobsView) (steps : List Step) (first : ReplayState) (index : ℕ)
    (state : ReplayState)
    → IsThrough cpu knobs steps first index state → IsSome state.draft.fault
    → GoesThrough (windowed_by cpu knobs first) steps (windowed_by cpu knobs state)
through_failed cpu knobs steps first index state t some = record {
  cpu = refl;
  knobs = refl;
  replay = subst (λ l. IsReplay knobs cpu (replay_state_view first) l (replay_state_view state))
      (take-append-drop index steps)
      (IsReplay-append knobs cpu (replay_state_view first) (take index steps) (drop index steps)
      (replay_state_view state) (replay_state_view state) t.through.replay
      (let f = fault_of state.draft.fault some in
      faulted_stays knobs cpu (replay_state_view state) (drop index steps) f.0 f.1));
  at_most = (let h = t.through.at_most in omega (arith, length-take {A = Step}));
  raises = λ none. absurd (true≢false (sym some ∙ ap is_some none));
}

-- through all of them
pub through_all : (cpu : ℕ) (knobs : KnobsView) (steps : List Step) (first : ReplayState) (index : ℕ)
    (state : ReplayState)
    → IsThrough cpu knobs steps first index state → length steps ≤ index
    → GoesThrough (windowed_by cpu knobs first) steps (windowed_by cpu knobs state)
through_all cpu knobs steps first index state t all =
    subst (λ l. GoesThrough (windowed_by cpu knobs first) l (windowed_by cpu knobs state)) (take_all index steps all)
    t.through

-- a step that met want of memory changed nothing
pub through_stopped : (cpu : ℕ) (knobs : KnobsView) (steps : List Step) (first : ReplayState) (index : ℕ)
    (state new : ReplayState)
    → IsThrough cpu knobs steps first index state → index < length steps → IsGoing new
    → replay_state_view new ≡ replay_state_view state → new.made ≡ state.made → new.needs ≡ state.needs
    → StopsWithin (windowed_by cpu knobs first) steps (windowed_by cpu knobs new)
through_stopped cpu knobs steps first index state new t within going same made needs = record {
  count = index;
  fewer = within;
  through = subst (GoesThrough (windowed_by cpu knobs first) (take index steps)) unchanged t.through;
  faultless = going.fault;
}
  where
    unchanged : windowed_by cpu knobs state ≡ windowed_by cpu knobs new
    unchanged = sym (ap (λ x. as_is x new.made new.needs) same
        ∙ ap (λ n. as_is (replay_state_view state) n new.needs) made
        ∙ ap (λ n. as_is (replay_state_view state) state.made n) needs)
      where
        as_is : ReplayStateView → ℕ → KnobsView → WindowedView
        as_is view count need = record { cpu = cpu; knobs = knobs; made = count; state = view; needs = need }
