-- A window that all processors went through at the greatest settings: what each needed of it, and what is needed now.
use Rattle.std.proofs.Common.{◌≡◌, ℕ, zero, suc, ◌<◌, ◌≤◌, ◌⊎◌, None, List, ◌++◌, inl, inr, sym, ◌∙◌}
use Rattle.std.proofs.Common.{subst, arith}
use Rattle.std.proofs.lemmas.Bool.{cases_lt}
use Rattle.std.proofs.lemmas.List.{length-append}
use Rattle.cfs_model.specs.Claimed.{Claimed}
use Rattle.cfs_model.specs.Knobs.{KnobsView, nothing, value_at}
use Rattle.cfs_model.specs.Least.{AreLeast, AtMost, larger}
use Rattle.cfs_model.specs.declared.setting.Setting.{Setting}
use Rattle.cfs_model.proofs.LeastSettings.{at_most_trans, below_larger, other_below_larger}
use Rattle.queue_replay.specs.Windowed.{RaisesNeeds, WindowedView}
use Rattle.replay_model.specs.Cut.{last_time_of, steps_at}
use Rattle.replay_model.specs.Needs.{AllPassNeeding, idle_need, largest, only_slack}
use Rattle.replay_model.specs.Roll.{named, roll_of}
use Rattle.need_laws.specs.LeastSoFar.{needs_at_end}
use Rattle.need_laws.specs.Places.{SawWindow}
use Rattle.need_laws.specs.Reaching.{NeedsSoFar}
use Rattle.need_laws.proofs.RoseLast.{larger_at, no_slack_at}
use Rattle.need_laws.proofs.LeastOfWindows.{needs_go_on, needs_tell_least, none_fails}
use Rattle.window_audit.specs.Audit.{Beginning}
use Rattle.window_audit.specs.States.{forgotten}
use Rattle.window_audit.proofs.Lists.{steps_few}
use Rattle.least_audit.specs.Pursuers.{ArePursuers, IsWindowPursued, kept_at, needs_behind, rises_of, view_at}
use Rattle.least_audit.specs.Pursuit.{IsNoted, Pursues}
use Rattle.least_audit.specs.Rises.{rise_at}
use Rattle.least_audit.specs.SoFar.{first_machine}
use Rattle.least_audit.specs.declared.pursuer.Pursuer.{Pursuer}
use Rattle.least_audit.proofs.Lists.{pursued_at}

-- the largest needs are at least each, and at most what each is at most
pub above_each : (needs : ℕ → KnobsView) (cpus cpu : ℕ) → cpu < cpus → AtMost (needs cpu) (largest needs cpus)
above_each needs zero cpu h = absurd (omega arith)
above_each needs (suc cpus) cpu h = elim (cases_lt cpu cpus) [
  | inl k ↦ at_most_trans (needs cpu) (largest needs cpus) (largest needs (suc cpus)) (above_each needs cpus cpu k)
      (below_larger (largest needs cpus) (needs cpus))
  | inr k ↦ subst (λ c. AtMost (needs c) (largest needs (suc cpus)))
      (let e : cpus ≡ cpu = omega (arith, h, k) in e) (other_below_larger (largest needs cpus) (needs cpus))
]

pub all_within : (needs : ℕ → KnobsView) (which : Setting) (cpus bound : ℕ)
    → ((cpu : ℕ) → cpu < cpus → value_at (needs cpu) which ≤ bound) → value_at (largest needs cpus) which ≤ bound
all_within needs which zero bound h = let e = no_slack_at which in omega (arith, e)
all_within needs which (suc cpus) bound h =
    let a = all_within needs which cpus bound (λ cpu k. h cpu (omega (arith, k))) in
    let b = h cpus (omega arith) in
    let e = larger_at (largest needs cpus) (needs cpus) which in
    omega (arith, a, b, e)

module _ (of : Beginning) (so_far window : List Claimed) (before after : List Pursuer)
    (w : IsWindowPursued of so_far window before after) where
  -- a replay of a processor as it stood before the window
  abbrev pub from : ℕ → WindowedView
  from cpu = record {
    cpu = cpu;
    knobs = of.knobs;
    made = (view_at before cpu).made;
    state = kept_at before cpu;
    needs = (view_at before cpu).needs;
  }

  is_from : (cpu : ℕ) → cpu < of.cpus → forgotten (view_at before cpu) ≡ from cpu
  is_from cpu k =
      let own = w.pursuers.own cpu k in
      λ i. record {
        cpu = own.cpu_is i;
        knobs = own.knobs_are i;
        made = (view_at before cpu).made;
        state = kept_at before cpu;
        needs = (view_at before cpu).needs;
      }

  pub pursues : (cpu : ℕ) → cpu < of.cpus
      → Pursues (from cpu) (steps_at cpu window) (view_at after cpu) (rises_of after cpu)
  pursues cpu k =
      subst (λ s. Pursues s (steps_at cpu window) (view_at after cpu) (rises_of after cpu)) (is_from cpu k)
      (subst (λ n. Pursues (forgotten (view_at before cpu)) (steps_at n window) (view_at after cpu)
      (rises_of after cpu)) (w.pursuers.own cpu k).cpu_is
      (pursued_at window before after w.count w.pursued cpu (subst (λ n. cpu < n) (sym w.pursuers.count) k)))

  pub no_fault : (cpu : ℕ) → cpu < of.cpus → (view_at after cpu).state.page.fault ≡ None
  no_fault cpu k =
      none_fails of.knobs of.start of.floors of.tasks so_far window of.cpus cpu w.behind
      (roll_of (named of.tasks) (so_far ++ window)) (kept_at before cpu) (view_at after cpu).state
      (view_at before cpu).needs w.is_record w.run k (w.pursuers.needs cpu k) (pursues cpu k).through.replay

  raised : (cpu : ℕ) → cpu < of.cpus → RaisesNeeds (from cpu) (steps_at cpu window) (view_at after cpu)
  raised cpu k = ((pursues cpu k).noted (no_fault cpu k)).0

  -- what a processor's steps of the window need
  here_by : (cpu : ℕ) → (cpu < of.cpus) ⊎ (of.cpus ≤ cpu) → KnobsView
  here_by cpu (inl k) = (raised cpu k).here
  here_by cpu (inr k) = nothing

  pub here : ℕ → KnobsView
  here cpu = here_by cpu (cases_lt cpu of.cpus)

  by_here : (cpu : ℕ) (P : KnobsView → Type 0) → cpu < of.cpus → ((j : cpu < of.cpus) → P (raised cpu j).here)
      → P (here cpu)
  unfolding here here_by
  by_here cpu P k h = go (cases_lt cpu of.cpus)
    where
      go : (c : (cpu < of.cpus) ⊎ (of.cpus ≤ cpu)) → P (here_by cpu c)
      go (inl j) = h j
      go (inr j) = absurd (omega (arith, j, k))

  pub passes : (cpu : ℕ) → cpu < of.cpus
      → AllPassNeeding of.knobs cpu (kept_at before cpu) (steps_at cpu window) (view_at after cpu).state (here cpu)
  passes cpu k =
      by_here cpu (λ n. AllPassNeeding of.knobs cpu (kept_at before cpu) (steps_at cpu window)
      (view_at after cpu).state n) k (λ j. (raised cpu j).passes)

  pub needs_are : (cpu : ℕ) → cpu < of.cpus
      → (view_at after cpu).needs ≡ larger (view_at before cpu).needs (here cpu)
  needs_are cpu k =
      by_here cpu (λ n. (view_at after cpu).needs ≡ larger (view_at before cpu).needs n) k (λ j. (raised cpu j).needs)

  pub noted : (cpu : ℕ) → cpu < of.cpus → (which : Setting)
      → IsNoted (from cpu) (steps_at cpu window) (view_at after cpu) (here cpu) which
      (rise_at (rises_of after cpu) which)
  unfolding raised
  noted cpu k which =
      by_here cpu (λ n. IsNoted (from cpu) (steps_at cpu window) (view_at after cpu) n which
      (rise_at (rises_of after cpu) which)) k (λ j. ((pursues cpu j).noted (no_fault cpu j)).1 which)

  -- they have gone through the window too
  pub pursuers_on : ArePursuers of (so_far ++ window) after
  pursuers_on = record {
    count = w.count ∙ w.pursuers.count;
    own = λ cpu k. record {
      cpu_is = (pursues cpu k).through.cpu;
      knobs_are = (pursues cpu k).through.knobs;
      made =
          (let a = (pursues cpu k).through.at_most in let b = (w.pursuers.own cpu k).made in
          let c = steps_few cpu window in let d = length-append so_far window in omega (arith, a, b, c, d));
    };
    needs = λ cpu k. subst (λ n. NeedsSoFar of.knobs of.start of.floors of.tasks (so_far ++ window) cpu
        (kept_at after cpu) n) (sym (needs_are cpu k))
        (needs_go_on of.knobs of.start of.floors of.tasks so_far window cpu (kept_at before cpu)
        (view_at after cpu).state (view_at before cpu).needs (here cpu) (w.pursuers.needs cpu k) (passes cpu k));
  }

  -- what is needed now
  abbrev pub least : KnobsView
  least = needs_behind of (so_far ++ window) after

  pub are_least : AreLeast of.start (first_machine of) (so_far ++ window) least
  are_least =
      needs_tell_least of.knobs of.start of.floors of.tasks (so_far ++ window) of.cpus w.behind (kept_at after)
      (roll_of (named of.tasks) (so_far ++ window)) (λ cpu. (view_at after cpu).needs) w.is_record w.run
      pursuers_on.needs

  pub needs_most : (cpu : ℕ) → cpu < of.cpus → AtMost (view_at after cpu).needs least
  needs_most cpu k =
      at_most_trans (view_at after cpu).needs
      (needs_at_end of.start (so_far ++ window) (kept_at after cpu) (view_at after cpu).needs) least
      (below_larger (view_at after cpu).needs
      (only_slack (idle_need (kept_at after cpu).since (last_time_of of.start (so_far ++ window)))))
      (above_each (λ one. needs_at_end of.start (so_far ++ window) (kept_at after one) (view_at after one).needs)
      of.cpus cpu k)

  pub had_most : (cpu : ℕ) → cpu < of.cpus → AtMost (view_at before cpu).needs least
  had_most cpu k =
      at_most_trans (view_at before cpu).needs (view_at after cpu).needs least
      (subst (AtMost (view_at before cpu).needs) (sym (needs_are cpu k))
      (below_larger (view_at before cpu).needs (here cpu))) (needs_most cpu k)

  pub here_most : (cpu : ℕ) → cpu < of.cpus → AtMost (here cpu) least
  here_most cpu k =
      at_most_trans (here cpu) (view_at after cpu).needs least
      (subst (AtMost (here cpu)) (sym (needs_are cpu k)) (other_below_larger (view_at before cpu).needs (here cpu)))
      (needs_most cpu k)

  pub saw : SawWindow of.knobs least of.start of.floors of.tasks so_far window of.cpus (kept_at before)
      (λ cpu. (view_at after cpu).state) (λ cpu. (view_at before cpu).needs) here w.behind
      (roll_of (named of.tasks) (so_far ++ window))
  saw = record {
    is_record = w.is_record;
    so_far = w.run;
    run = are_least.run;
    needs_before = w.pursuers.needs;
    passes = passes;
    had_most = had_most;
    here_most = here_most;
  }
