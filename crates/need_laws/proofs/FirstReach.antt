-- Where the steps of a window at one processor first need more of a setting than there is: those before a line that
-- isn't above that step stay within it.
use Rattle.std.proofs.Common.{◌≡◌, ℕ, ◌<◌, ◌≤◌, Bool, true, false, cond, inl, inr, List, [], ◌∷◌, ◌++◌}
use Rattle.std.proofs.Common.{filter, map, refl, sym, ap, ◌∙◌, subst, true≢false, arith}
use Rattle.std.specs.List.{AllByRecursion}
use Rattle.cfs_model.specs.Claimed.{Claimed}
use Rattle.cfs_model.specs.Knobs.{KnobsView, value_at}
use Rattle.cfs_model.specs.Least.{AtMost, larger}
use Rattle.cfs_model.specs.declared.setting.Setting.{Setting}
use Rattle.cfs_model.specs.declared.setting.Setting.TheVariants.{Granularity, Credit, Debit, Slack, Drift}
use Rattle.replay_model.specs.Cut.{steps_at, touches}
use Rattle.replay_model.specs.Needs.{AllPassNeeding, only_slack}
use Rattle.replay_model.specs.Page.{ReplayStateView}
use Rattle.replay_model.specs.StepAt.{step_at}
use Rattle.replay_model.specs.declared.step.Step.{Step}
use Rattle.cfs_model.proofs.LeastSettings.{at_most_trans, below_larger, larger_at_most, other_below_larger}
use Rattle.need_laws.specs.Reaching.{ReachesFrom}

-- steps in two parts need the larger of what each needs, and so the first part no more
pub split_needs : (knobs : KnobsView) (cpu : ℕ) (from : ReplayStateView) (steps more : List Step) (ends :
    ReplayStateView)
    (needs : KnobsView) → AllPassNeeding knobs cpu from (steps ++ more) ends needs
    → (mid : ReplayStateView) × (here later : KnobsView) × AllPassNeeding knobs cpu from steps mid here
    × AllPassNeeding knobs cpu mid more ends later × AtMost here needs × AtMost later needs
split_needs knobs cpu from [] more ends needs p =
    (from, only_slack 0, needs, (refl, refl), p, none, λ which. itself (value_at needs which))
  where
    itself : (n : ℕ) → n ≤ n
    itself n = omega arith

    none : AtMost (only_slack 0) needs
    none which = least which
      where
        least : (which : Setting) → value_at (only_slack 0) which ≤ value_at needs which
        least Granularity = omega arith
        least Credit = omega arith
        least Debit = omega arith
        least Slack = omega arith
        least Drift = omega arith
split_needs knobs cpu from (step ∷ steps) more ends needs p =
    let s = split_needs knobs cpu p.0 steps more ends p.2 p.4 in (
      s.0,
      larger p.1 s.1,
      s.2,
      (p.0, p.1, s.1, p.3, s.3, refl),
      s.4,
      subst (λ x. AtMost (larger p.1 s.1) x) (sym p.5) (larger_at_most p.1 s.1 (larger p.1 p.2)
          (below_larger p.1 p.2) (at_most_trans s.1 p.2 (larger p.1 p.2) s.5 (other_below_larger p.1 p.2))),
      subst (AtMost s.2) (sym p.5) (at_most_trans s.2 p.2 (larger p.1 p.2) s.6 (other_below_larger p.1 p.2)),
    )

-- the first of some steps, and those behind it
first_of : Step → List Step → Step
first_of d [] = d
first_of d (x ∷ xs) = x

behind_first : List Step → List Step
behind_first [] = []
behind_first (x ∷ xs) = xs

pub some_are_none : (d : Step) (xs : List Step) → [] ≡ d ∷ xs → ⊥
some_are_none d xs e = true≢false (ap is_none_of e)
  where
    is_none_of : List Step → Bool
    is_none_of [] = true
    is_none_of (x ∷ xs) = false

-- steps of which something is less than of another stand before it
pub before_step : (of : Step → ℕ) (steps more front back : List Step) (step : Step)
    → steps ++ more ≡ front ++ step ∷ back
    → AllByRecursion (λ (x : Step). of x < of step) steps → (rest : List Step) × (front ≡ steps ++ rest)
unfolding first_of behind_first
before_step of [] more front back step e h = (front, refl)
before_step of (x ∷ steps) more [] back step e h =
    let same : x ≡ step = ap (first_of x) e in
    let low : of x < of step = h.0 in
    absurd (not_below (of step) (subst (λ (s : Step). of s < of step) same low))
  where
    not_below : (n : ℕ) → n < n → ⊥
    not_below n k = omega arith
before_step of (x ∷ steps) more (y ∷ front) back step e h =
    let same : x ≡ y = ap (first_of x) e in
    let rest = before_step of steps more front back step (ap behind_first e) h.1 in
    (rest.0, ap (λ xs. y ∷ xs) rest.1 ∙ ap (λ z. z ∷ (steps ++ rest.0)) (sym same))

-- what comes behind the same steps is the same
pub same_behind : (steps more other : List Step) → steps ++ more ≡ steps ++ other → more ≡ other
unfolding behind_first
same_behind [] more other e = e
same_behind (x ∷ steps) more other e = same_behind steps more other (ap behind_first e)

-- the event of a step
pub record EventOf (cpu : ℕ) (events : List Claimed) (front : List Step) (step : Step) : Type 0 where
  pub before : List Claimed
  pub event : Claimed
  pub rest : List Claimed
  pub whole : events ≡ before ++ event ∷ rest
  pub touch : touches cpu event ≡ true
  pub steps : steps_at cpu before ≡ front
  pub is : step ≡ step_at cpu event

pub event_of : (cpu : ℕ) (events : List Claimed) (front back : List Step) (step : Step)
    → steps_at cpu events ≡ front ++ step ∷ back → EventOf cpu events front step
unfolding first_of behind_first
event_of cpu [] [] back step e = absurd (some_are_none step back e)
event_of cpu [] (x ∷ front) back step e = absurd (some_are_none x (front ++ step ∷ back) e)
event_of cpu (event ∷ events) front back step e =
    go (touches cpu event) refl front (λ xs h. event_of cpu events xs back step h) e
  where
    later : (front : List Step) → (o : EventOf cpu events front step) → (all : List Step)
        → steps_at cpu (event ∷ o.before) ≡ all → EventOf cpu (event ∷ events) all step
    later front o all s = record {
      before = event ∷ o.before;
      event = o.event;
      rest = o.rest;
      whole = ap (λ xs. event ∷ xs) o.whole;
      touch = o.touch;
      steps = s;
      is = o.is;
    }

    seen : (b : Bool) (xs : List Claimed) → touches cpu event ≡ b
        → steps_at cpu (event ∷ xs)
        ≡ map (step_at cpu) (cond b (event ∷ filter (touches cpu) xs) (filter (touches cpu) xs))
    seen b xs t = ap (λ b. map (step_at cpu) (cond b (event ∷ filter (touches cpu) xs) (filter (touches cpu) xs))) t

    go : (b : Bool) → touches cpu event ≡ b → (front : List Step)
        → ((xs : List Step) → steps_at cpu events ≡ xs ++ step ∷ back → EventOf cpu events xs step)
        → steps_at cpu (event ∷ events) ≡ front ++ step ∷ back → EventOf cpu (event ∷ events) front step
    go true t [] one_less e = record {
      before = [];
      event = event;
      rest = events;
      whole = refl;
      touch = t;
      steps = refl;
      is = sym (ap (first_of step) (sym (seen true events t) ∙ e));
    }
    go true t (x ∷ front) one_less e =
        let h = sym (seen true events t) ∙ e in
        let o = one_less front (ap behind_first h) in
        later front o (x ∷ front)
        (seen true o.before t ∙ ap (λ xs. step_at cpu event ∷ xs) o.steps ∙ ap (λ y. y ∷ front) (ap (first_of x) h))
    go false t front one_less e =
        let o = one_less front (sym (seen false events t) ∙ e) in
        later front o front (seen false o.before t ∙ o.steps)

-- the steps before a line that isn't above the first step that needs more stay within the bound
pub record StayBelow (knobs : KnobsView) (cpu : ℕ) (from : ReplayStateView) (steps : List Step) (needs : KnobsView)
    (which : Setting) (bound : ℕ) : Type 0 where
  pub mid : ReplayStateView
  pub here : KnobsView
  pub passes : AllPassNeeding knobs cpu from steps mid here
  pub at_most : AtMost here needs
  pub within : value_at here which ≤ bound

pub le_through : (a b c : ℕ) → a ≤ b → b ≤ c → a ≤ c
le_through a b c h k = omega arith

lower : (line : ℕ) (step : Step) (steps : List Step) → line ≤ step.line
    → AllByRecursion (λ (x : Step). x.line < line) steps → AllByRecursion (λ (x : Step). x.line < step.line) steps
lower line step [] k h = tt
lower line step (x ∷ steps) k h = ((let a : x.line < line = h.0 in omega arith), lower line step steps k h.1)

pub stay_below : (knobs : KnobsView) (cpu : ℕ) (from : ReplayStateView) (steps more : List Step)
    (ends : ReplayStateView) (needs : KnobsView) (which : Setting) (bound line : ℕ)
    → ReachesFrom knobs cpu from (steps ++ more) ends needs which bound line
    → AllByRecursion (λ (x : Step). x.line < line) steps
    → StayBelow knobs cpu from steps needs which bound
stay_below knobs cpu from steps more ends needs which bound line (inl p) h =
    let s = split_needs knobs cpu from steps more ends needs p.0 in
    record {
      mid = s.0;
      here = s.1;
      passes = s.3;
      at_most = s.5;
      within = le_through (value_at s.1 which) (value_at needs which) bound (s.5 which) p.1;
    }
stay_below knobs cpu from steps more ends needs which bound line (inr p) h =
    let r = p.2 in
    let rest = before_step (λ (x : Step). x.line) steps more r.front r.back p.0 r.whole
    (lower line p.0 steps p.1 h) in
    let s = split_needs knobs cpu from steps rest.0 r.mid r.before
    (subst (λ xs. AllPassNeeding knobs cpu from xs r.mid r.before) rest.1 r.passes_before) in
    record {
      mid = s.0;
      here = s.1;
      passes = s.3;
      at_most = at_most_trans s.1 r.before needs s.5
          (subst (AtMost r.before) (sym r.needs_are) (below_larger r.before (larger r.here r.later)));
      within = le_through (value_at s.1 which) (value_at r.before which) bound (s.5 which) r.within;
    }
