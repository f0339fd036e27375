-- An event behind a run has at most one cause: the run's states are one, at most one test is the first that fails on a
-- part, since at most one task runs at a processor, and no test fails on a part that passes.
use Rattle.std.proofs.Common.{◌≡◌, ℕ, ℤ, ◌⊎◌, inl, inr, List, ◌∷◌, sym, ap, ◌∙◌, subst, arith}
use Rattle.std.proofs.lemmas.Bool.{cases_lt}
use Rattle.cfs_model.specs.Knobs.{KnobsView}
use Rattle.cfs_model.specs.Machine.{Machine}
use Rattle.cfs_model.specs.Claimed.{Claimed}
use Rattle.cfs_model.specs.Order.{IsInOrder}
use Rattle.cfs_model.specs.Run.{times_of, last_of}
use Rattle.replay_model.specs.Part.{Part, part_of}
use Rattle.replay_model.specs.PartWords.{OneRunsIn}
use Rattle.replay_model.specs.Tests.{FirstHolds, charge_tests, late_tests, PassesTests}
use Rattle.replay_model.specs.StepAt.{step_at}
use Rattle.replay_model.specs.Cause.{SlackFails, FaultCause, FailsOn, FailsAt, PassesAt, IsActCause, IsIdlingCause}
use Rattle.replay_model.specs.Cause.{IsCause}
use Rattle.cfs_model.proofs.OneNext.{one_list}
use Rattle.replay_model.proofs.PartFacts.{stands_at}
use Rattle.part_laws.proofs.one_page.OneLift.{same_found, none_first}
use Rattle.part_laws.proofs.one_page.OnePid.{charges_one, late_one, one_first}
use Rattle.replay_laws.proofs.ending.RunEndings.{order_after}
use Rattle.cfs_model.specs.declared.act.Act.{Act}
use Rattle.cfs_model.specs.declared.act.Act.TheVariants.{Switch, Wake, Born, Shift}
use Rattle.cfs_model.specs.declared.kind.Kind.{Kind}
use Rattle.cfs_model.specs.declared.task.Place.TheVariants.{Run}
use Rattle.replay_model.specs.declared.step.Step.{Step}

same_cause : (a b : FaultCause) → a.cpu ≡ b.cpu → a.pid ≡ b.pid → a.kind ≡ b.kind → a ≡ b
same_cause a b e f g =
    ap (λ x. record { cpu = x; pid = a.pid; kind = a.kind }) e
    ∙ ap (λ x. record { cpu = b.cpu; pid = x; kind = a.kind }) f
    ∙ ap (λ x. record { cpu = b.cpu; pid = b.pid; kind = x }) g

-- at most one test is the first that fails on a part
one_test : (knobs : KnobsView) (cpu : ℕ) (part : Part) (step : Step) → OneRunsIn part → (kind other : Kind) (p q : ℕ)
    → FailsOn knobs cpu part step kind p → FailsOn knobs cpu part step other q → (kind ≡ other) × (p ≡ q)
one_test knobs cpu part step one kind other p q (inl h) (inl k) =
    one_first (charge_tests knobs part step) (charges_one knobs part step one) kind other p q h k
one_test knobs cpu part step one kind other p q (inl h) (inr k) =
    absurd (none_first (charge_tests knobs part step) kind p k.0 h)
one_test knobs cpu part step one kind other p q (inr h) (inl k) =
    absurd (none_first (charge_tests knobs part step) other q h.0 k)
one_test knobs cpu part step one kind other p q (inr h) (inr k) =
    one_first (late_tests knobs cpu k.1.0 step) (late_one knobs cpu k.1.0 step) kind other p q
    (subst (λ x. FirstHolds (late_tests knobs cpu x step) kind p) (same_found step part h.1.0 k.1.0 h.1.1 k.1.1)
    h.1.2) k.1.2

-- none fails on a part that passes
passes_or_fails : (knobs : KnobsView) (cpu : ℕ) (part : Part) (step : Step) (found : Part) (kind : Kind) (pid : ℕ)
    → PassesTests knobs cpu part step found → FailsOn knobs cpu part step kind pid → ⊥
passes_or_fails knobs cpu part step found kind pid p (inl h) =
    none_first (charge_tests knobs part step) kind pid (p.in_range, (p.told, tt)) h
passes_or_fails knobs cpu part step found kind pid p (inr h) =
    none_first (late_tests knobs cpu found step) kind pid p.none
    (subst (λ x. FirstHolds (late_tests knobs cpu x step) kind pid)
    (same_found step part h.1.0 found h.1.1 p.is_found) h.1.2)

-- at most one task runs at a processor of an ordered machine
one_runs_at : (m : Machine) → IsInOrder m → (cpu : ℕ) → OneRunsIn (part_of m cpu)
one_runs_at m o cpu pid other h k = o.one_runs cpu pid other (stands_at m Run cpu pid h) (stands_at m Run cpu other k)

module _ (knobs : KnobsView) (m : Machine) (o : IsInOrder m) (event : Claimed) (a b : FaultCause) where
  one_failure : (cpu : ℕ) → FailsAt knobs m cpu event a → FailsAt knobs m cpu event b → a ≡ b
  one_failure cpu f g =
      let t = one_test knobs cpu (part_of m cpu) (step_at cpu event) (one_runs_at m o cpu) a.kind b.kind a.pid b.pid
      f.fails g.fails in
      same_cause a b (f.here ∙ sym g.here) t.1 t.0

  -- a test fails at a processor, or all pass there
  not_both : (cpu : ℕ) (c : FaultCause) (found : Part) → FailsAt knobs m cpu event c → PassesAt knobs m cpu event found
      → a ≡ b
  not_both cpu c found f p = absurd
      (passes_or_fails knobs cpu (part_of m cpu) (step_at cpu event) found c.kind c.pid p f.fails)

  one_shift : (orig dest pid : ℕ) (nice : ℤ) → IsActCause knobs m event (Shift orig dest pid nice) a
      → IsActCause knobs m event (Shift orig dest pid nice) b → a ≡ b
  one_shift orig dest pid nice (inl f) (inl g) = one_failure orig f g
  one_shift orig dest pid nice (inl f) (inr (inl g)) = not_both orig a g.left f g.leaves
  one_shift orig dest pid nice (inl f) (inr (inr g)) = not_both orig a g.left f g.leaves
  one_shift orig dest pid nice (inr (inl f)) (inl g) = not_both orig b f.left g f.leaves
  one_shift orig dest pid nice (inr (inl f)) (inr (inl g)) = one_failure dest f.fails g.fails
  one_shift orig dest pid nice (inr (inl f)) (inr (inr g)) = not_both dest a g.came f.fails g.arrives
  one_shift orig dest pid nice (inr (inr f)) (inl g) = not_both orig b f.left g f.leaves
  one_shift orig dest pid nice (inr (inr f)) (inr (inl g)) = not_both dest b f.came g.fails f.arrives
  one_shift orig dest pid nice (inr (inr f)) (inr (inr g)) = f.is ∙ sym g.is

  one_act : (act : Act) → IsActCause knobs m event act a → IsActCause knobs m event act b → a ≡ b
  one_act (Switch cpu prev pn way next nn) f g = one_failure cpu f g
  one_act (Wake cpu pid nice) f g = one_failure cpu f g
  one_act (Born cpu pid nice) (inl f) (inl g) = one_failure cpu f g
  one_act (Born cpu pid nice) (inl f) (inr g) = not_both cpu a g.found f g.passes
  one_act (Born cpu pid nice) (inr f) (inl g) = not_both cpu b f.found g f.passes
  one_act (Born cpu pid nice) (inr f) (inr g) = f.is ∙ sym g.is
  one_act (Shift orig dest pid nice) f g = one_shift orig dest pid nice f g

one_lowest : (slack : ℕ) (times : List ℕ) (states : List Machine) (time : ℕ) (a b : FaultCause)
    → IsIdlingCause slack times states time a → IsIdlingCause slack times states time b → a ≡ b
one_lowest slack times states time a b f g =
    let cpu : a.cpu ≡ b.cpu = elim (cases_lt a.cpu b.cpu) [
      | inl k ↦ absurd (g.lowest a.cpu k f.idles)
      | inr k ↦ elim (cases_lt b.cpu a.cpu) [ inl l ↦ absurd (f.lowest b.cpu l g.idles) | inr l ↦ omega arith ]
    ] in
    same_cause a b cpu (f.pid ∙ sym g.pid) (f.kind ∙ sym g.kind)

-- what is wrong with an event behind these states
abbrev Why : KnobsView → ℕ → Machine → List Claimed → Claimed → List Machine → FaultCause → Type 0
Why knobs start first before event states cause =
    IsIdlingCause knobs.slack (times_of start before) (first ∷ states) event.entry.time cause
    ⊎ (((cpu : ℕ) → ¬ SlackFails knobs.slack (times_of start before) (first ∷ states) cpu event.entry.time)
    × IsActCause knobs (last_of first states) event event.entry.act cause)

one_why : (knobs : KnobsView) (start : ℕ) (first : Machine) (before : List Claimed) (event : Claimed)
    (states : List Machine) (a b : FaultCause) → IsInOrder (last_of first states)
    → Why knobs start first before event states a → Why knobs start first before event states b → a ≡ b
one_why knobs start first before event states a b o (inl f) (inl g) =
    one_lowest knobs.slack (times_of start before) (first ∷ states) event.entry.time a b f g
one_why knobs start first before event states a b o (inl f) (inr g) = absurd (g.0 a.cpu f.idles)
one_why knobs start first before event states a b o (inr f) (inl g) = absurd (f.0 b.cpu g.idles)
one_why knobs start first before event states a b o (inr f) (inr g) =
    one_act knobs (last_of first states) o event a b event.entry.act f.1 g.1

pub one_cause : (knobs : KnobsView) (start : ℕ) (first : Machine) (before : List Claimed) (event : Claimed)
    (a b : FaultCause) → IsInOrder first → IsCause knobs start first before event a
    → IsCause knobs start first before event b → a ≡ b
one_cause knobs start first before event a b o f g =
    one_why knobs start first before event g.run.states a b
    (order_after knobs first before g.run.states g.run.steps o)
    (subst (λ states. Why knobs start first before event states a)
    (one_list knobs first before f.run.states g.run.states f.run.steps g.run.steps) f.why) g.why
