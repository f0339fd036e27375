-- The least settings: the lesser of two settings that make a run makes one, since what an event does asks for one
-- setting alone, and the charge told on its line for the drift; and what follows.
use Rattle.std.proofs.Common.{◌≡◌, ℕ, ◌≤◌, min, ◌⊎◌, inl, inr, List, [], ◌∷◌, max, refl, sym, ap}
use Rattle.std.proofs.Common.{◌∙◌, subst, arith}
use Rattle.std.proofs.lemmas.Bool.{cases_lt}
use Rattle.std.proofs.Math.Nat.{le-max_left, le-max_right, max-le}
use Rattle.cfs_model.specs.Knobs.{KnobsView, nothing, only, settings_by, value_at}
use Rattle.cfs_model.specs.declared.setting.Setting.{Setting}
use Rattle.cfs_model.specs.declared.setting.Setting.TheVariants.{Granularity, Credit, Debit, Slack, Drift}
use Rattle.cfs_model.specs.Machine.{Machine}
use Rattle.cfs_model.specs.Claimed.{Claimed}
use Rattle.cfs_model.specs.Touch.{touched}
use Rattle.cfs_model.specs.Lifted.{IsLifted}
use Rattle.cfs_model.specs.Step.{IsStep}
use Rattle.cfs_model.specs.Idling.{KeepsSlack}
use Rattle.cfs_model.specs.Run.{AreSteps, times_of}
use Rattle.cfs_model.specs.Least.{AtMost, lesser, larger}
use Rattle.cfs_model.specs.Laws.{LesserKeepsRun, SameStates, OneLeast, RunFromLeast, LeastOfPrefix}
use Rattle.cfs_model.proofs.OneNext.{one_list, one_lifted}
use Rattle.cfs_model.proofs.Prefix.{run_prefix}
use Rattle.cfs_model.proofs.MoreGenerous.{asked, changes_more, step_more, steps_more, run_more}
use Rattle.cfs_model.specs.declared.act.Act.{Act}
use Rattle.cfs_model.specs.declared.act.Act.TheVariants.{Switch, Wake, Born, Shift}

abbrev larger_value : KnobsView → KnobsView → Setting → ℕ
larger_value one other which = max (value_at one which) (value_at other which)

-- settings by a function have its values
at_by : (value : Setting → ℕ) (which : Setting) → value_at (settings_by value) which ≡ value which
at_by value Granularity = refl
at_by value Credit = refl
at_by value Debit = refl
at_by value Slack = refl
at_by value Drift = refl

-- settings that have the same value of each are the same
pub same_settings : (one other : KnobsView) → ((which : Setting) → value_at one which ≡ value_at other which)
    → one ≡ other
same_settings one other same =
    built one.granularity other.granularity one.credit other.credit one.debit other.debit one.slack other.slack
    one.drift other.drift (same Granularity) (same Credit) (same Debit) (same Slack) (same Drift)
  where
    of : ℕ → ℕ → ℕ → ℕ → ℕ → KnobsView
    of g c d s t = record { granularity = g; credit = c; debit = d; slack = s; drift = t }

    built : (g g' c c' d d' s s' t t' : ℕ) → g ≡ g' → c ≡ c' → d ≡ d' → s ≡ s' → t ≡ t'
        → of g c d s t ≡ of g' c' d' s' t'
    built g g' c c' d d' s s' t t' p q r u v = cc

-- the larger of two settings
pub below_larger : (one other : KnobsView) → AtMost one (larger one other)
below_larger one other which =
    subst (λ n. value_at one which ≤ n) (sym (at_by (larger_value one other) which))
    (le-max_left (value_at one which) (value_at other which))

pub other_below_larger : (one other : KnobsView) → AtMost other (larger one other)
other_below_larger one other which =
    subst (λ n. value_at other which ≤ n) (sym (at_by (larger_value one other) which))
    (le-max_right (value_at one which) (value_at other which))

-- nothing beside settings changes them in either place
pub larger_nothing : (here : KnobsView) → larger nothing here ≡ larger here nothing
larger_nothing here =
    same_settings (larger nothing here) (larger here nothing)
    (λ which. at_by (larger_value nothing here) which ∙ swapped (value_at nothing which) (value_at here which)
    ∙ sym (at_by (larger_value here nothing) which))
  where
    swapped : (a b : ℕ) → max a b ≡ max b a
    swapped a b = omega arith

-- the larger of three settings, whichever two come first
pub larger_of_three : (x y z : KnobsView) → larger (larger x y) z ≡ larger x (larger y z)
larger_of_three x y z =
    same_settings (larger (larger x y) z) (larger x (larger y z)) (λ which.
    at_by (larger_value (larger x y) z) which
    ∙ ap (λ n. max n (value_at z which)) (at_by (larger_value x y) which)
    ∙ three (value_at x which) (value_at y which) (value_at z which)
    ∙ ap (max (value_at x which)) (sym (at_by (larger_value y z) which))
    ∙ sym (at_by (larger_value x (larger y z)) which))
  where
    three : (a b c : ℕ) → max (max a b) c ≡ max a (max b c)
    three a b c = omega arith

-- a slack alone is at most settings of which the slack is at least that
pub slack_at_most : (slack : ℕ) (more : KnobsView) → slack ≤ more.slack → AtMost (only Slack slack) more
slack_at_most slack more h Granularity = omega arith
slack_at_most slack more h Credit = omega arith
slack_at_most slack more h Debit = omega arith
slack_at_most slack more h Slack = h
slack_at_most slack more h Drift = omega arith

-- what is at most something: along a chain, of the larger of two, and nothing at all
pub at_most_trans : (less between more : KnobsView) → AtMost less between → AtMost between more → AtMost less more
at_most_trans less between more h k which =
    le_through (value_at less which) (value_at between which) (value_at more which) (h which) (k which)
  where
    le_through : (a b c : ℕ) → a ≤ b → b ≤ c → a ≤ c
    le_through a b c h k = omega arith

pub larger_at_most : (one other more : KnobsView) → AtMost one more → AtMost other more
    → AtMost (larger one other) more
larger_at_most one other more h k which =
    subst (λ n. n ≤ value_at more which) (sym (at_by (larger_value one other) which)) (max-le (h which) (k which))

-- one of two numbers is at most the lesser
pub one_or_other : (a b : ℕ) → (a ≤ min a b) ⊎ (b ≤ min a b)
one_or_other a b = elim (cases_lt a b) [ inl h ↦ inl (omega arith) | inr h ↦ inr (omega arith) ]

-- what an event does asks for nothing of the drift
asked_drift : (one : KnobsView) (drift : ℕ) (act : Act) → asked act (record one { drift = drift }) ≡ asked act one
asked_drift one drift (Switch cpu prev prev_nice way next next_nice) = refl
asked_drift one drift (Wake cpu pid nice) = refl
asked_drift one drift (Born cpu pid nice) = refl
asked_drift one drift (Shift orig dest pid nice) = refl

asked_as : (one : KnobsView) (drift : ℕ) (more : KnobsView) (act : Act) → asked act one ≤ asked act more
    → asked act (record one { drift = drift }) ≤ asked act more
asked_as one drift more act h = subst (λ n. n ≤ asked act more) (sym (asked_drift one drift act)) h

pub asked_same : (one : KnobsView) (drift : ℕ) (act : Act) → asked act one ≤ asked act (record one { drift = drift })
asked_same one drift act = subst (λ n. asked act one ≤ n) (sym (asked_drift one drift act)) (same_least (asked act one))
  where
    same_least : (n : ℕ) → n ≤ n
    same_least n = omega arith

-- one of two settings asks no more of an event than the lesser
asked_lesser : (one other : KnobsView) (act : Act)
    → (asked act one ≤ asked act (lesser one other)) ⊎ (asked act other ≤ asked act (lesser one other))
asked_lesser one other (Switch cpu prev prev_nice way next next_nice) = one_or_other one.granularity other.granularity
asked_lesser one other (Wake cpu pid nice) = one_or_other one.credit other.credit
asked_lesser one other (Born cpu pid nice) = one_or_other one.debit other.debit
asked_lesser one other (Shift orig dest pid nice) = inl (omega arith)

-- a step with the drift of other settings at which it is one
with_drift_of : (one other : KnobsView) (before : Machine) (event : Claimed) (after : Machine)
    → IsStep one before event after → IsStep other before event after
    → IsStep (record one { drift = other.drift }) before event after
with_drift_of one other before event after a b = record {
  lifted = a.lifted;
  is_lifted = subst (λ m. IsLifted other.drift event.entry.time event.charge (touched event.entry.act) before m)
      (one_lifted other.drift one.drift event.entry.time event.charge (touched event.entry.act) before b.lifted a.lifted
      b.is_lifted a.is_lifted) b.is_lifted;
  found = a.found;
  is_reniced = a.is_reniced;
  changes = changes_more one (record one { drift = other.drift }) a.found event.entry.act event.claim event.policy after
      (asked_same one other.drift event.entry.act) a.changes;
  in_range = a.in_range;
}

step_lesser : (one other : KnobsView) (before : Machine) (event : Claimed) (after : Machine)
    → IsStep one before event after → IsStep other before event after → IsStep (lesser one other) before event after
step_lesser one other before event after a b = elim (asked_lesser one other event.entry.act) [
  | inl h ↦ elim (one_or_other one.drift other.drift) [
    | inl d ↦ step_more one (lesser one other) before event after h d a
    | inr d ↦ step_more (record one { drift = other.drift }) (lesser one other) before event after
        (asked_as one other.drift (lesser one other) event.entry.act h) d
        (with_drift_of one other before event after a b)
  ]
  | inr h ↦ elim (one_or_other one.drift other.drift) [
    | inl d ↦ step_more (record other { drift = one.drift }) (lesser one other) before event after
        (asked_as other one.drift (lesser one other) event.entry.act h) d
        (with_drift_of other one before event after b a)
    | inr d ↦ step_more other (lesser one other) before event after h d b
  ]
]

steps_lesser : (one other : KnobsView) (before : Machine) (events : List Claimed) (states : List Machine)
    → AreSteps one before events states → AreSteps other before events states
    → AreSteps (lesser one other) before events states
steps_lesser one other before [] [] a b = tt
steps_lesser one other before [] (m ∷ states) a b = absurd a
steps_lesser one other before (event ∷ events) [] a b = absurd a
steps_lesser one other before (event ∷ events) (m ∷ states) a b = (
  step_lesser one other before event m a.0 b.0,
  steps_lesser one other m events states a.1 b.1,
)

slack_lesser : (one other : ℕ) (times : List ℕ) (states : List Machine) → KeepsSlack one times states
    → KeepsSlack other times states → KeepsSlack (min one other) times states
slack_lesser one other times states a b cpu i j below within idles =
    let h = a cpu i j below within idles in
    let k = b cpu i j below within idles in
    elim (one_or_other one other) [ inl l ↦ omega arith | inr l ↦ omega arith ]

-- a run's states are the same at any settings
pub same_states : SameStates
same_states one other start first events run also =
    one_list (larger one other) first events run.states also.states
    (steps_more one (larger one other) first events run.states (below_larger one other) run.steps)
    (steps_more other (larger one other) first events also.states (other_below_larger one other) also.steps)

pub run_lesser : LesserKeepsRun
run_lesser one other start first events run also =
    let same = sym (same_states one other start first events run also) in
    record {
      states = run.states;
      steps = steps_lesser one other first events run.states run.steps
          (subst (λ states. AreSteps other first events states) same also.steps);
      slack = slack_lesser one.slack other.slack (times_of start events) (first ∷ run.states) run.slack
          (subst (λ states. KeepsSlack other.slack (times_of start events) (first ∷ states)) same also.slack);
    }

nat_same : (a b : ℕ) → a ≤ b → b ≤ a → a ≡ b
nat_same a b h k = omega arith

pub one_least : OneLeast
one_least start first events one other a b =
    same_settings one other (λ which. nat_same (value_at one which) (value_at other which)
    (a.least other b.run which) (b.least one a.run which))

pub run_from_least : RunFromLeast
run_from_least start first events least other a =
    (λ run. a.least other run, λ h. run_more least other start first events h a.run)

pub least_of_prefix : LeastOfPrefix
least_of_prefix start first events rest front whole a b =
    a.least whole (run_prefix whole start first events rest b.run)
