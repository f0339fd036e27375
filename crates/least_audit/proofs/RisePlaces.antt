-- The place of a setting but the slack, where a window needs more of it than was needed before.
use Rattle.std.proofs.Common.{◌≡◌, ◌≢◌, ◌==◌, ℕ, zero, suc, ◌<◌, ◌≤◌, max, Bool, true, false, Option, Some, None, List}
use Rattle.std.proofs.Common.{◌++◌, if◌then◌else◌, inl, inr, refl, sym, ap, ◌∙◌, subst, arith}
use Rattle.std.specs.Prelude.{option_map}
use Rattle.std.proofs.lemmas.Bool.{cases_lt, eq-eqb, eqb-true}
use Rattle.cfs_model.specs.Claimed.{Claimed}
use Rattle.cfs_model.specs.Knobs.{KnobsView, value_at}
use Rattle.cfs_model.specs.declared.setting.Setting.{Setting}
use Rattle.cfs_model.specs.declared.setting.Setting.TheVariants.{Granularity, Credit, Debit, Slack, Drift}
use Rattle.queue_replay.specs.Windowed.{WindowedView}
use Rattle.replay_model.specs.Cut.{last_time_of, steps_at}
use Rattle.replay_model.specs.Needs.{idle_need, only_slack}
use Rattle.need_laws.specs.LeastSoFar.{needs_at_end}
use Rattle.need_laws.specs.Places.{NeedsAt, RisesFrom}
use Rattle.need_laws.specs.Rising.{RoseBy}
use Rattle.need_laws.specs.RiseEvents.{IsEventOf}
use Rattle.need_laws.specs.Short.{needing}
use Rattle.need_laws.proofs.EventOfRise.{rise_has_event}
use Rattle.need_laws.proofs.PlacesSoFar.{window_has_place}
use Rattle.need_laws.proofs.RoseLast.{larger_at}
use Rattle.replay_model.specs.Roll.{named, roll_of}
use Rattle.replay_model.specs.Part.{Part}
use Rattle.window_audit.specs.Audit.{Beginning}
use Rattle.least_audit.specs.Candidates.{at_cpu, line_of, rise_to, rises_to}
use Rattle.least_audit.specs.FirstOf.{IsFirstOf, IsFound}
use Rattle.least_audit.specs.Pursuers.{IsWindowPursued, kept_at, rises_of, view_at}
use Rattle.least_audit.specs.Pursuit.{IsFirstWaiting, IsNoted}
use Rattle.least_audit.specs.Rises.{rise_at}
use Rattle.least_audit.specs.declared.pursuer.Pursuer.{Pursuer}
use Rattle.least_audit.specs.declared.pursuer.RiseAt.{RiseAt}
use Rattle.least_audit.specs.declared.rise.Rise.{Rise}
use Rattle.least_audit.specs.declared.rise.Rises.{Rises}
use Rattle.least_audit.proofs.WindowSeen.{all_within, from, here, here_most, least, needs_are, needs_most, noted}
use Rattle.least_audit.proofs.WindowSeen.{pursuers_on, saw}

-- where so much is needed, and a step was noted, that is what is found
found_at : (which : Setting) (value : ℕ) (replay : WindowedView) (rises : Rises) (rise : Rise)
    → value_at replay.needs which ≡ value → rise_at rises which ≡ Some rise
    → rise_to which value replay rises ≡ Some (at_cpu replay.cpu rise)
found_at which value replay rises rise e f =
    ap (λ b. if b then option_map (at_cpu replay.cpu) (rise_at rises which) else None)
    (eq-eqb (value_at replay.needs which) value e)
    ∙ ap (option_map (at_cpu replay.cpu)) f

-- and the other way
pub record Noted (which : Setting) (value : ℕ) (replay : WindowedView) (rises : Rises) (at : RiseAt) : Type 0 where
  pub enough : value_at replay.needs which ≡ value
  pub is_noted : rise_at rises which ≡ Some at.rise
  pub own : at.cpu ≡ replay.cpu

noted_by : (which : Setting) (value : ℕ) (replay : WindowedView) (rises : Rises) (at : RiseAt)
    → rise_to which value replay rises ≡ Some at → Noted which value replay rises at
noted_by which value replay rises at e = go (value_at replay.needs which == value) refl (rise_at rises which) refl e
  where
    go : (b : Bool) → (value_at replay.needs which == value) ≡ b → (o : Option Rise) → rise_at rises which ≡ o
        → (if b then option_map (at_cpu replay.cpu) o else None) ≡ Some at
        → Noted which value replay rises at
    go true f None g e = absurd cc
    go true f (Some r) g e =
        let same : at_cpu replay.cpu r ≡ at = cc in
        record {
          enough = eqb-true (value_at replay.needs which) value f;
          is_noted = g ∙ ap (λ (a : RiseAt). Some a.rise) same;
          own = sym (ap (λ (a : RiseAt). a.cpu) same);
        }
    go false f o g e = absurd cc

only_slack_at : (which : Setting) (slack : ℕ) → which ≢ Slack → value_at (only_slack slack) which ≡ 0
only_slack_at Granularity slack other = refl
only_slack_at Credit slack other = refl
only_slack_at Debit slack other = refl
only_slack_at Slack slack other = absurd (other refl)
only_slack_at Drift slack other = refl

below_top : (a b : ℕ) → a ≢ b → a ≤ b → a < b
below_top a b other le = elim (cases_lt a b) [
  | inl k ↦ k
  | inr k ↦ absurd (other (omega (arith, k, le)))
]

module _ (of : Beginning) (so_far window : List Claimed) (before after : List Pursuer)
    (w : IsWindowPursued of so_far window before after) (which : Setting) (value : ℕ)
    (top : value ≡ value_at (least of so_far window before after w) which)
    (low : (cpu : ℕ) → cpu < of.cpus → value_at (view_at before cpu).needs which < value) where
  abbrev here_at : ℕ → ℕ
  here_at cpu = value_at (here of so_far window before after w cpu) which

  needs_at : (cpu : ℕ) → cpu < of.cpus
      → value_at (view_at after cpu).needs which ≡ max (value_at (view_at before cpu).needs which) (here_at cpu)
  needs_at cpu k =
      ap (λ n. value_at n which) (needs_are of so_far window before after w cpu k)
      ∙ larger_at (view_at before cpu).needs (here of so_far window before after w cpu) which

  -- who needs so much needs it in the window
  full : (cpu : ℕ) → cpu < of.cpus → value_at (view_at after cpu).needs which ≡ value → here_at cpu ≡ value
  full cpu k e = (let n = needs_at cpu k in let l = low cpu k in omega (arith, n, l, e))

  -- and a step is noted there
  pub record HasRise (cpu : ℕ) : Type 0 where
    pub rise : Rise
    pub is_noted : rise_at (rises_of after cpu) which ≡ Some rise
    pub left : Part
    pub over : IsFirstWaiting left rise.over
    pub rose : RoseBy of.knobs cpu (kept_at before cpu) (steps_at cpu window) (view_at after cpu).state
        (view_at before cpu).needs (here of so_far window before after w cpu) which rise.step rise.since left

  pub step_there : (cpu : ℕ) → cpu < of.cpus → here_at cpu ≡ value → HasRise cpu
  step_there cpu k e = go (rise_at (rises_of after cpu) which) refl (noted of so_far window before after w cpu k which)
    where
      go : (o : Option Rise) → rise_at (rises_of after cpu) which ≡ o
          → IsNoted (from of so_far window before after w cpu) (steps_at cpu window) (view_at after cpu)
          (here of so_far window before after w cpu) which o → HasRise cpu
      go None f n = absurd (let l = low cpu k in omega (arith, n, l, e))
      go (Some rise) f n = record { rise = rise; is_noted = f; left = n.0; over = n.1; rose = n.2 }

  -- who has none that needs so much isn't it
  pub none_of : IsFirstOf line_of (rises_to which value after) of.cpus None → (cpu : ℕ) → cpu < of.cpus
      → value_at (view_at after cpu).needs which ≢ value
  none_of none cpu k e =
      let s = step_there cpu k (full cpu k e) in
      let f = found_at which value (view_at after cpu) (rises_of after cpu) s.rise e s.is_noted in
      let g = none cpu k in cc

  -- so where none is found nothing is needed
  pub none_needed : which ≢ Slack → IsFirstOf line_of (rises_to which value after) of.cpus None
      → value_at (least of so_far window before after w) which ≡ 0
  none_needed not_slack none = go value refl
    where
      at_end : ℕ → KnobsView
      at_end cpu = needs_at_end of.start (so_far ++ window) (kept_at after cpu) (view_at after cpu).needs

      idle : ℕ → KnobsView
      idle cpu = only_slack (idle_need (kept_at after cpu).since (last_time_of of.start (so_far ++ window)))

      go : (n : ℕ) → value ≡ n → value_at (least of so_far window before after w) which ≡ 0
      go zero e = sym top ∙ e
      go (suc n) e =
          let within : value_at (least of so_far window before after w) which ≤ n =
          all_within at_end which of.cpus n (λ cpu k.
          let most = needs_most of so_far window before after w cpu k which in
          let other = none_of none cpu k in
          let below : value_at (view_at after cpu).needs which ≤ n =
          omega (
            arith,
            below_top (value_at (view_at after cpu).needs which) value other
                (subst (λ m. value_at (view_at after cpu).needs which ≤ m) (sym top) most),
            e,
          ) in
          let both = larger_at (view_at after cpu).needs (idle cpu) which in
          let none_idle = only_slack_at which
          (idle_need (kept_at after cpu).since (last_time_of of.start (so_far ++ window))) not_slack in
          omega (arith, below, both, none_idle)) in
          absurd (omega (arith, within, top, e))

  module _ (not_slack : which ≢ Slack) (first : RiseAt) (found : IsFound line_of (rises_to which value after) of.cpus
      first) where
    there : Noted which value (view_at after found.index) (rises_of after found.index) first
    there = noted_by which value (view_at after found.index) (rises_of after found.index) first found.there

    pub place_step : HasRise found.index
    place_step = step_there found.index found.within (full found.index found.within there.enough)

    pub same_rise : place_step.rise ≡ first.rise
    same_rise =
        let a = place_step.is_noted in let b = there.is_noted in cc

    pub cpu_is : first.cpu ≡ found.index
    cpu_is = there.own ∙ ((pursuers_on of so_far window before after w).own found.index found.within).cpu_is

    rises : (one : ℕ) → one < of.cpus
        → RisesFrom of.knobs (least of so_far window before after w) one (kept_at before one) (steps_at one window)
        (view_at after one).state (view_at before one).needs (here of so_far window before after w one) which
        place_step.rise.step.line
    rises one k = elim (cases_lt (here_at one) value) [
      | inl less ↦ inl (subst (λ n. here_at one < n) top less)
      | inr le ↦
          let m = here_most of so_far window before after w one k which in
          let same : here_at one ≡ value = omega (arith, m, le, top) in
          let s = step_there one k same in
          let n = needs_at one k in let l = low one k in
          let e : value_at (view_at after one).needs which ≡ value = omega (arith, n, l, same) in
          let f = found_at which value (view_at after one) (rises_of after one) s.rise e s.is_noted in
          let lines = found.least one (at_cpu (view_at after one).cpu s.rise) k f in
          let own = ap (λ (r : Rise). r.step.line) same_rise in
          inr (s.rise.step, s.rise.since, s.left, same ∙ top, omega (arith, lines, own), s.rose)
    ]

    pub place_needs : NeedsAt of.start of.floors of.tasks (so_far ++ window) (least of so_far window before after w)
        which
        place_step.rise.step.line found.index (needing which place_step.rise.step)
    place_needs =
        window_has_place of.knobs (least of so_far window before after w) of.start of.floors of.tasks so_far window
        of.cpus (kept_at before) (λ cpu. (view_at after cpu).state) (λ cpu. (view_at before cpu).needs)
        (here of so_far window before after w) w.behind (roll_of (named of.tasks) (so_far ++ window)) which found.index
        place_step.rise.step place_step.rise.since place_step.left (saw of so_far window before after w)
        (λ one k. subst (λ n. value_at (view_at before one).needs which < n) top (low one k)) rises not_slack
        found.within
        (full found.index found.within there.enough ∙ top) place_step.rose

    pub place_event : IsEventOf of.start of.floors of.tasks (so_far ++ window) found.index place_step.rise.step
        place_step.left
    place_event =
        rise_has_event of.knobs (least of so_far window before after w) of.start of.floors of.tasks so_far window
        of.cpus (kept_at before) (λ cpu. (view_at after cpu).state) (λ cpu. (view_at before cpu).needs)
        (here of so_far window before after w) w.behind (roll_of (named of.tasks) (so_far ++ window)) which found.index
        place_step.rise.step place_step.rise.since place_step.left (saw of so_far window before after w) found.within
        place_step.rose
