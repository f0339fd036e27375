-- How a processor idles at the front of a window, where it is known since when it does in the window.
use Rattle.std.proofs.Common.{◌≡◌, ℕ, ◌+◌, ◌-◌, ◌<◌, ◌≤◌, Some, ◌⊎◌, inl, inr, List, [], ◌∷◌, ◌++◌, append_assoc}
use Rattle.std.proofs.Common.{refl, sym, ap}
use Rattle.std.proofs.Common.{◌∙◌, subst, arith}
use Rattle.std.specs.List.{AllByRecursion}
use Rattle.cfs_model.specs.Knobs.{KnobsView}
use Rattle.cfs_model.specs.Least.{AtMost, larger}
use Rattle.replay_model.specs.Needs.{AllPassNeeding, PassesNeeding, idle_need}
use Rattle.replay_model.specs.Page.{ReplayStateView}
use Rattle.need_laws.specs.Reaching.{IdlesAtEnd, IdlesAtStep, IdlesFrom, ReachesAt}
use Rattle.cfs_model.proofs.LeastSettings.{at_most_trans, below_larger}
use Rattle.replay_laws.proofs.following.Follow.{since_begun}
use Rattle.replay_model.proofs.Options.{same_some}
use Rattle.window_laws.proofs.Appended.{all_front}
use Rattle.need_laws.proofs.FirstReach.{before_step, le_through, same_behind, split_needs}
use Rattle.cfs_model.specs.declared.setting.Setting.TheVariants.{Slack}
use Rattle.replay_model.specs.declared.step.Step.{Step}

-- where a replay idles since a time below those of its steps, it did so before them
pub idled_before : (knobs : KnobsView) (cpu : ℕ) (from : ReplayStateView) (steps : List Step) (ends : ReplayStateView)
    (needs : KnobsView) (since : ℕ) → AllPassNeeding knobs cpu from steps ends needs → ends.since ≡ Some since
    → AllByRecursion (λ (x : Step). since < x.time) steps → from.since ≡ Some since
idled_before knobs cpu from [] ends needs since p e h = ap (λ (s : ReplayStateView). s.since) (sym p.0) ∙ e
idled_before knobs cpu from (step ∷ steps) ends needs since p e h =
    let later = idled_before knobs cpu p.0 steps ends p.2 since p.4 e h.1 in
    let above : since < step.time = h.0 in
    elim (since_begun from.since step.time p.0.part p.0.since p.3.passes.since since later) [
      | inl same ↦ same
      | inr at ↦ absurd (omega arith)
    ]

-- a replay's steps of the front, what they need of the slack, and since when the replay then idles, if for longer than
-- a bound by a time
pub record FrontIdle (knobs : KnobsView) (cpu : ℕ) (from : ReplayStateView) (steps : List Step) (needs : KnobsView)
    (bound time least : ℕ) : Type 0 where
  pub mid : ReplayStateView
  pub here : KnobsView
  pub passes : AllPassNeeding knobs cpu from steps mid here
  pub at_most : AtMost here needs
  pub within : here.slack ≤ bound
  pub since : (y : ℕ) → mid.since ≡ Some y → y + bound < time → least ≤ y

-- what a step needs of the slack that finds the processor idling since a time
needs_from : (knobs : KnobsView) (cpu : ℕ) (mid : ReplayStateView) (step : Step) (next : ReplayStateView)
    (here : KnobsView) (y bound time : ℕ) → PassesNeeding knobs cpu mid step next here → mid.since ≡ Some y
    → y + bound < time → time ≤ step.time → here.slack ≤ bound → ⊥
needs_from knobs cpu mid step next here y bound time p e late k within =
    let need : here.slack ≡ step.time - y = p.needs_are.slack ∙ ap (λ o. idle_need o step.time) e in
    absurd (omega arith)

low_times : (limit : ℕ) (step : Step) (steps : List Step) → limit < step.time
    → AllByRecursion (λ (x : Step). x.time ≤ limit) steps → AllByRecursion (λ (x : Step). x.time < step.time) steps
low_times limit step [] k h = tt
low_times limit step (x ∷ steps) k h =
    ((let a : x.time ≤ limit = h.0 in omega arith), low_times limit step steps k h.1)

module _ (knobs : KnobsView) (cpu : ℕ) (from : ReplayStateView) (front rest : List Step) (ends : ReplayStateView)
    (needs : KnobsView) (bound last_time least limit time : ℕ)
    (low : AllByRecursion (λ (x : Step). x.time ≤ limit) front)
    (high : AllByRecursion (λ (x : Step). time ≤ x.time) rest)
    (by : limit ≤ least + bound) (up_to : time ≤ last_time) where
  -- no step needs more than the bound
  module _ (p : AllPassNeeding knobs cpu from (front ++ rest) ends needs) (within : needs.slack ≤ bound)
      (ended : (y : ℕ) → ends.since ≡ Some y → y + bound < time → least ≤ y) where
    calm_split : (mid : ReplayStateView) × (here later : KnobsView) × AllPassNeeding knobs cpu from front mid here
        × AllPassNeeding knobs cpu mid rest ends later × AtMost here needs × AtMost later needs
    calm_split = split_needs knobs cpu from front rest ends needs p

    calm_since_of : (xs : List Step) → AllByRecursion (λ (x : Step). time ≤ x.time) xs → (mid : ReplayStateView)
        (later : KnobsView) → AllPassNeeding knobs cpu mid xs ends later → later.slack ≤ bound → (y : ℕ)
        → mid.since ≡ Some y → y + bound < time → least ≤ y
    calm_since_of [] h mid later p k y e late = ended y (ap (λ (s : ReplayStateView). s.since) p.0 ∙ e) late
    calm_since_of (x ∷ xs) h mid later p k y e late =
        let first : p.1.slack ≤ bound = le_through p.1.slack later.slack bound
        (subst (λ n. p.1.slack ≤ n.slack) (sym p.5) (below_larger p.1 p.2 Slack)) k in
        absurd (needs_from knobs cpu mid x p.0 p.1 y bound time p.3 e late h.0 first)

    calm_idle : FrontIdle knobs cpu from front needs bound time least
    calm_idle = record {
      mid = calm_split.0;
      here = calm_split.1;
      passes = calm_split.3;
      at_most = calm_split.5;
      within = le_through calm_split.1.slack needs.slack bound (calm_split.5 Slack) within;
      since = calm_since_of rest high calm_split.0 calm_split.2 calm_split.4 (le_through calm_split.2.slack
          needs.slack bound (calm_split.6 Slack)
          within);
    }

  -- one does
  module _ (step : Step) (at : ReachesAt knobs cpu from (front ++ rest) ends needs Slack bound step) (x : ℕ)
      (idles : at.mid.since ≡ Some x) (no_sooner : least ≤ x) where
    is_late : limit < step.time
    is_late =
        let need : at.here.slack ≡ step.time - x = at.passes.needs_are.slack ∙ ap (λ o. idle_need o step.time) idles in
        let above : bound < at.here.slack = at.above in
        omega arith

    late_more : (more : List Step) × (at.front ≡ front ++ more)
    late_more = before_step (λ (s : Step). s.time) front rest at.front at.back step at.whole
        (low_times limit step front is_late low)

    late_behind : rest ≡ late_more.0 ++ step ∷ at.back
    late_behind = same_behind front rest (late_more.0 ++ step ∷ at.back)
        (at.whole ∙ ap (λ xs. xs ++ step ∷ at.back) late_more.1 ∙ append_assoc front late_more.0 (step ∷ at.back))

    late_split : (mid : ReplayStateView) × (here later : KnobsView) × AllPassNeeding knobs cpu from front mid here
        × AllPassNeeding knobs cpu mid late_more.0 at.mid later × AtMost here at.before × AtMost later at.before
    late_split = split_needs knobs cpu from front late_more.0 at.mid at.before
        (subst (λ xs. AllPassNeeding knobs cpu from xs at.mid at.before) late_more.1 at.passes_before)

    late_since_of : (xs : List Step) → rest ≡ xs ++ step ∷ at.back → (mid : ReplayStateView) (later : KnobsView)
        → AllPassNeeding knobs cpu mid xs at.mid later → later.slack ≤ bound → (y : ℕ)
        → mid.since ≡ Some y → y + bound < time → least ≤ y
    late_since_of [] e mid later p k y f over =
        let same : x ≡ y = same_some (Some x) x y refl
        (sym idles ∙ ap (λ (s : ReplayStateView). s.since) p.0 ∙ f) in
        subst (λ n. least ≤ n) same no_sooner
    late_since_of (z ∷ xs) e mid later p k y f over =
        let first : p.1.slack ≤ bound = le_through p.1.slack later.slack bound
        (subst (λ n. p.1.slack ≤ n.slack) (sym p.5) (below_larger p.1 p.2 Slack)) k in
        let high_z : AllByRecursion (λ (x : Step). time ≤ x.time) (z ∷ (xs ++ step ∷ at.back)) =
        subst (AllByRecursion (λ (x : Step). time ≤ x.time)) e high in
        absurd (needs_from knobs cpu mid z p.0 p.1 y bound time p.3 f over high_z.0 first)

    late_idle : FrontIdle knobs cpu from front needs bound time least
    late_idle = record {
      mid = late_split.0;
      here = late_split.1;
      passes = late_split.3;
      at_most = at_most_trans late_split.1 at.before needs late_split.5
          (subst (AtMost at.before) (sym at.needs_are) (below_larger at.before (larger at.here at.later)));
      within = le_through late_split.1.slack at.before.slack bound (late_split.5 Slack) at.within;
      since = late_since_of late_more.0 late_behind late_split.0 late_split.2 late_split.4
          (le_through late_split.2.slack at.before.slack bound (late_split.6 Slack) at.within);
    }

  pub front_idle : IdlesFrom knobs cpu from (front ++ rest) ends needs bound last_time least
      → FrontIdle knobs cpu from front needs bound time least
  front_idle (inl h) = calm_idle h.passes h.within
      (λ y e late. let most = h.in_time y e in absurd (omega arith))
  front_idle (inr (inl h)) = calm_idle h.2.passes h.2.within
      (λ y e late. subst (λ n. least ≤ n) (same_some (Some h.0) h.0 y refl (sym h.2.idles ∙ e)) h.1)
  front_idle (inr (inr h)) = late_idle h.2.step h.2.reaches h.0 h.2.idles h.1

  later_than : (x : ℕ) → x < time → (steps : List Step) → AllByRecursion (λ (s : Step). time ≤ s.time) steps
      → AllByRecursion (λ (s : Step). x < s.time) steps
  later_than x k [] h = tt
  later_than x k (s ∷ steps) h = ((let a : time ≤ s.time = h.0 in omega arith), later_than x k steps h.1)

  -- where it is known since when it idles in the window, it does so at the front
  pub front_since : (x : ℕ) → least ≤ x → x < time
      → IdlesAtEnd knobs cpu from (front ++ rest) ends needs bound x
      ⊎ IdlesAtStep knobs cpu from (front ++ rest) ends needs bound x
      → (f : FrontIdle knobs cpu from front needs bound time least) × (f.mid.since ≡ Some x)
  unfolding calm_idle calm_split late_idle late_split
  front_since x k below (inl h) =
      let ended : (y : ℕ) → ends.since ≡ Some y → y + bound < time → least ≤ y =
      λ y e late. subst (λ n. least ≤ n) (same_some (Some x) x y refl (sym h.idles ∙ e)) k in
      let split = calm_split h.passes h.within ended in (
        calm_idle h.passes h.within ended,
        idled_before knobs cpu split.0 rest ends split.2 x split.4 h.idles (later_than x below rest high),
      )
  front_since x k below (inr h) =
      let split = late_split h.step h.reaches x h.idles k in
      let more = late_more h.step h.reaches x h.idles k in (
        late_idle h.step h.reaches x h.idles k,
        idled_before knobs cpu split.0 more.0 h.reaches.mid split.2 x split.4 h.idles
            (later_than x below more.0
            (all_front (λ (s : Step). time ≤ s.time) more.0 (h.step ∷ h.reaches.back)
            (subst (AllByRecursion (λ (s : Step). time ≤ s.time)) (late_behind h.step h.reaches x h.idles k) high))),
      )
