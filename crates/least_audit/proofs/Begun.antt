-- Before the first event nothing is needed.
use Rattle.std.proofs.Common.{◌≡◌, ℕ, zero, suc, ◌<◌, Option, Some, None, List, [], length, refl, sym, ap, ◌∙◌, subst}
use Rattle.std.proofs.Common.{arith}
use Rattle.cfs_model.specs.Knobs.{KnobsView, nothing, value_at}
use Rattle.cfs_model.specs.Least.{AreLeast, AtMost, larger}
use Rattle.cfs_model.specs.Machine.{Machine}
use Rattle.cfs_model.specs.declared.setting.Setting.{Setting}
use Rattle.cfs_model.specs.declared.setting.Setting.TheVariants.{Granularity, Credit, Debit, Slack, Drift}
use Rattle.least_places.specs.Place.{place_at}
use Rattle.replay_laws.proofs.following.FollowLaws.{starts_at}
use Rattle.replay_model.specs.Cut.{cut}
use Rattle.replay_model.specs.Needs.{idle_need, largest, only_slack}
use Rattle.replay_model.specs.Page.{IsStartOf, ReplayStateView}
use Rattle.need_laws.specs.LeastSoFar.{needs_at_end}
use Rattle.window_laws.specs.Kept.{kept_of}
use Rattle.window_audit.specs.Audit.{Beginning}
use Rattle.window_audit.specs.States.{IsOwn}
use Rattle.least_audit.specs.Pursuers.{ArePursuers, kept_at, view_at}
use Rattle.least_audit.specs.SoFar.{AreFiguresOf, IsPlacedSoFar, first_machine}
use Rattle.least_audit.specs.declared.figures.Figures.{Figures}
use Rattle.least_audit.specs.declared.pursuer.Pursuer.{Pursuer}

none_needed : (needs : ℕ → KnobsView) (cpus : ℕ) → ((cpu : ℕ) → cpu < cpus → needs cpu ≡ nothing)
    → largest needs cpus ≡ nothing
none_needed needs zero h = refl
none_needed needs (suc cpus) h =
    ap (λ n. larger n (needs cpus)) (none_needed needs cpus (λ cpu k. h cpu (omega arith)))
    ∙ ap (larger nothing) (h cpus (omega arith))

at_most_any : (other : KnobsView) → AtMost nothing other
at_most_any other Granularity = omega arith
at_most_any other Credit = omega arith
at_most_any other Debit = omega arith
at_most_any other Slack = omega arith
at_most_any other Drift = omega arith

nothing_at : (which : Setting) → value_at nothing which ≡ 0
nothing_at Granularity = refl
nothing_at Credit = refl
nothing_at Debit = refl
nothing_at Slack = refl
nothing_at Drift = refl

none_least : (start : ℕ) (first : Machine) → AreLeast start first [] nothing
none_least start first = record {
  run = record { states = []; steps = tt; slack = λ cpu i j less within idles. absurd (omega (arith, less, within)) };
  least = λ other run. at_most_any other;
}

-- what a processor needs by then
start_needs : (of : Beginning) (cpu : ℕ) (state : ReplayStateView) (needs : KnobsView)
    → IsStartOf (cut of.start of.floors of.tasks [] cpu) state → needs ≡ only_slack 0
    → needs_at_end of.start [] (kept_of state) needs ≡ nothing
start_needs of cpu state needs s none =
    ap (λ n. larger n (only_slack (idle_need state.since of.start))) none
    ∙ ap (λ n. larger (only_slack 0) (only_slack n)) (by state.since refl)
  where
    by : (o : Option ℕ) → state.since ≡ o → idle_need o of.start ≡ 0
    by None e = refl
    by (Some since) e =
        let at : since ≡ of.start = starts_at of.start state.part state.since s.since since e in
        omega (arith, at)

module _ (of : Beginning) (pursuers : List Pursuer) (count : length pursuers ≡ of.cpus)
    (own : (cpu : ℕ) → cpu < length pursuers → IsOwn of.knobs cpu 0 (view_at pursuers cpu))
    (starts : (cpu : ℕ) → cpu < length pursuers
    → IsStartOf (cut of.start of.floors of.tasks [] cpu) (view_at pursuers cpu).state)
    (needs : (cpu : ℕ) → cpu < length pursuers → (view_at pursuers cpu).needs ≡ only_slack 0) where
  within : (cpu : ℕ) → cpu < of.cpus → cpu < length pursuers
  within cpu k = subst (λ n. cpu < n) (sym count) k

  pub pursuers_begun : ArePursuers of [] pursuers
  pursuers_begun = record {
    count = count;
    own = λ cpu k. own cpu (within cpu k);
    needs = λ cpu k. record {
      first = (view_at pursuers cpu).state;
      is_start = starts cpu (within cpu k);
      last = (view_at pursuers cpu).state;
      passes = (refl, needs cpu (within cpu k));
      is_kept = refl;
    };
  }

  pub figures_begun : (figures : Figures) → figures.least ≡ nothing
      → ((which : Setting) → place_at figures.places which ≡ None) → AreFiguresOf of [] pursuers figures
  figures_begun figures none placeless = record {
    needs = none
        ∙ sym (none_needed (λ cpu. needs_at_end of.start [] (kept_at pursuers cpu) (view_at pursuers cpu).needs) of.cpus
        (λ cpu k. start_needs of cpu (view_at pursuers cpu).state (view_at pursuers cpu).needs
        (starts cpu (within cpu k)) (needs cpu (within cpu k))));
    least = subst (AreLeast of.start (first_machine of) []) (sym none) (none_least of.start (first_machine of));
    places = λ which. subst (IsPlacedSoFar of [] figures.least which) (sym (placeless which))
        (ap (λ n. value_at n which) none ∙ nothing_at which);
  }
