-- Where a step of a processor's replay fails, the events up to its own are no run.
use Rattle.std.proofs.Common.{◌≡◌, ℕ, suc, ◌+◌, ◌<◌, ◌≤◌, Option, Some, None, IsSomeAnd, inl, inr, List, [], ◌∷◌, ◌++◌}
use Rattle.std.proofs.Common.{map, length, get_or, slice_index, refl, sym, ap, ◌∙◌, subst, true≢false, arith}
use Rattle.std.proofs.Common.{length-append}
use Rattle.cfs_model.specs.Knobs.{KnobsView}
use Rattle.cfs_model.specs.Machine.{Machine}
use Rattle.cfs_model.specs.Start.{start_machine}
use Rattle.cfs_model.specs.Claimed.{Claimed}
use Rattle.cfs_model.specs.Step.{IsStep}
use Rattle.cfs_model.specs.Idling.{Idles, KeepsSlack}
use Rattle.cfs_model.specs.Run.{AreSteps, times_of, IsRun, last_of}
use Rattle.replay_model.specs.Part.{part_of}
use Rattle.replay_model.specs.QueueTests.{IsIdleTooLong}
use Rattle.replay_model.specs.StepAt.{step_at}
use Rattle.replay_model.specs.Cause.{SlackFails}
use Rattle.part_laws.specs.TouchedParts.{PartStep}
use Rattle.replay_laws.specs.FaultsEndRuns.{FaultEndsRun}
use Rattle.cfs_model.proofs.Prefix.{steps_length, slice_get-append_left, start_time_at, front_slack}
use Rattle.part_laws.proofs.one_page.OneLift.{step_no_fault}
use Rattle.part_laws.proofs.Touching.{steps_at_cpu}
use Rattle.replay_laws.proofs.following.FollowLaws.{followed_run, slack_follows}

-- the last step of a list of events
pub record LastStep (knobs : KnobsView) (m : Machine) (before : List Claimed) (event : Claimed)
    (states : List Machine) : Type 0 where
  pub front : List Machine
  pub after : Machine
  pub whole : states ≡ front ++ after ∷ []
  pub steps : AreSteps knobs m before front
  pub last : IsStep knobs (last_of m front) event after

pub last_step : (knobs : KnobsView) (m : Machine) (before : List Claimed) (event : Claimed) (states : List Machine)
    → AreSteps knobs m (before ++ event ∷ []) states → LastStep knobs m before event states
last_step knobs m [] event [] s = absurd s
last_step knobs m [] event (after ∷ []) s = record { front = []; after = after; whole = refl; steps = tt; last = s.0 }
last_step knobs m [] event (after ∷ more ∷ states) s = absurd s.1
last_step knobs m (first ∷ before) event [] s = absurd s
last_step knobs m (first ∷ before) event (next ∷ states) s =
    let t = last_step knobs next before event states s.1 in
    record {
      front = next ∷ t.front;
      after = t.after;
      whole = ap (λ xs. next ∷ xs) t.whole;
      steps =
          (s.0, t.steps);
      last = t.last;
    }

-- the time of the last event
last_time : (start : ℕ) (before : List Claimed) (event : Claimed)
    → slice_index (times_of start (before ++ event ∷ [])) (suc (length before)) ≡ event.entry.time
last_time start before event = go before
  where
    go : (xs : List Claimed)
        → get_or (map (λ (e : Claimed). e.entry.time) (xs ++ event ∷ [])) (length xs) 0 ≡ event.entry.time
    go [] = refl
    go (x ∷ xs) = go xs

-- a run doesn't let the slack fail at its last event
pub slack_holds : (slack start : ℕ) (m : Machine) (before : List Claimed) (event : Claimed) (front : List Machine)
    (after : Machine) → length front ≡ length before
    → KeepsSlack slack (times_of start (before ++ event ∷ [])) (m ∷ (front ++ after ∷ [])) → (cpu : ℕ)
    → ¬ SlackFails slack (times_of start before) (m ∷ front) cpu event.entry.time
slack_holds slack start m before event front after same keeps cpu f =
    let from = f.from in
    let below : from < suc (length front) = f.is_state in
    let late = f.late in
    let at = start_time_at start before (event ∷ []) from (omega arith) in
    let end : slice_index (times_of start (before ++ event ∷ [])) (suc (length front)) ≡ event.entry.time =
    ap (λ n. slice_index (times_of start (before ++ event ∷ [])) (suc n)) same ∙ last_time start before event in
    let most : slice_index (times_of start (before ++ event ∷ [])) (suc (length front)) ≤ slice_index
    (times_of start (before ++ event ∷ [])) from + slack =
    keeps cpu from (suc (length front)) below (omega (arith, length-append front (after ∷ [])))
    (λ n low high. subst (λ o. IsSomeAnd o (λ x. Idles x cpu))
    (sym (slice_get-append_left (m ∷ front) (after ∷ []) n high)) (f.idles n low high)) in
    absurd (omega arith)

pub fault_ends_run : FaultEndsRun
fault_ends_run knobs start floors tasks before event cpu last failed s rise t r fails run =
    let m = start_machine start floors tasks in
    let l = last_step knobs m before event run.states run.steps in
    let same = steps_length knobs m before l.front l.steps in
    let keeps = subst (λ xs. KeepsSlack knobs.slack (times_of start (before ++ event ∷ [])) (m ∷ xs)) l.whole
    run.slack in
    let front : IsRun knobs start m before = record {
      states = l.front;
      steps = l.steps;
      slack = front_slack knobs.slack start m before (event ∷ []) l.front
          (l.after ∷ []) same keeps;
    } in
    let f = followed_run knobs start floors tasks before cpu last s rise front r in
    let step = steps_at_cpu knobs (last_of m l.front) event l.after f.at.order l.last cpu in
    let in_time : (pid : ℕ) → ¬ IsIdleTooLong knobs.slack last.since event.entry.time pid =
    λ pid h. slack_holds knobs.slack start m before event l.front l.after same keeps cpu
    ((slack_follows knobs start floors tasks before cpu last event.entry.time s rise front r).1
    (too_long_at last.since pid h)) in
    elim step [
      | inl k ↦ step_no_fault knobs cpu last (step_at cpu event) (part_of l.after cpu) failed
          (subst (λ p. PartStep knobs cpu p (step_at cpu event) (part_of l.after cpu)) f.at.part k.1) in_time fails
      | inr k ↦ true≢false (sym t ∙ k.0)
    ]
  where
    too_long_at : (o : Option ℕ) (pid : ℕ) → IsIdleTooLong knobs.slack o event.entry.time pid
        → IsIdleTooLong knobs.slack o event.entry.time 0
    too_long_at None pid h = h
    too_long_at (Some x) pid h = (h.0, refl)
