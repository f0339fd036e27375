-- A fault has a deadline just where its processor had idled for too long: no test but that one is of a kind with a
-- deadline, and it is the first.
use Rattle.std.proofs.lemmas.Bool.{and_parts}
use Rattle.std.proofs.Common.{◌≡◌, ℕ, ◌+◌, ◌<◌, Bool, true, false, ◌&&◌, true≢false, Option, Some, None, inl, inr, List}
use Rattle.std.proofs.Common.{[], ◌∷◌, refl, sym, ap, ◌∙◌, subst}
use Rattle.cfs_model.specs.Knobs.{KnobsView}
use Rattle.replay_model.specs.Part.{Part}
use Rattle.replay_model.specs.QueueTests.{IsIdleTooLong}
use Rattle.replay_model.specs.Tests.{Test, FirstHolds, charge_tests, late_tests}
use Rattle.replay_model.specs.Page.{ReplayStateView, FailsTest, deadline_of}
use Rattle.replay_model.specs.Cause.{FailsOn}
use Rattle.replay_model.proofs.Options.{no_some, some_no, same_some}
use Rattle.cfs_model.specs.declared.kind.Kind.{Kind}
use Rattle.cfs_model.specs.declared.kind.Kind.TheVariants.{IdleTooLong}
use Rattle.replay_model.specs.declared.step.Step.{Step}

-- a kind without a deadline
abbrev is_timeless : Kind → Bool
is_timeless IdleTooLong = false
is_timeless _ = true

timeless : (kind : Kind) → is_timeless kind ≡ true → (slack : ℕ) (since : Option ℕ)
    → deadline_of kind slack since ≡ None
timeless IdleTooLong h slack since = absurd (true≢false (sym h))
timeless _ h slack since = refl

-- all tests of a list are of such kinds
abbrev all_timeless : List Test → Bool
all_timeless [] = true
all_timeless (test ∷ tests) = is_timeless test.kind && all_timeless tests

first_timeless : (tests : List Test) (kind : Kind) (pid : ℕ) → all_timeless tests ≡ true → FirstHolds tests kind pid
    → is_timeless kind ≡ true
first_timeless [] kind pid all h = absurd h
first_timeless (test ∷ tests) kind pid all (inl h) =
    ap is_timeless h.1 ∙ (and_parts (is_timeless test.kind) (all_timeless tests) all).0
first_timeless (test ∷ tests) kind pid all (inr h) =
    first_timeless tests kind pid (and_parts (is_timeless test.kind) (all_timeless tests) all).1 h.1

late_timeless : (knobs : KnobsView) (cpu : ℕ) (part : Part) (step : Step) (kind : Kind) (pid slack : ℕ)
    (since : Option ℕ) → FirstHolds (late_tests knobs cpu part step) kind pid → deadline_of kind slack since ≡ None
late_timeless knobs cpu part step kind pid slack since h =
    timeless kind (first_timeless (late_tests knobs cpu part step) kind pid refl h) slack since

charge_timeless : (knobs : KnobsView) (part : Part) (step : Step) (kind : Kind) (pid slack : ℕ) (since : Option ℕ)
    → FirstHolds (charge_tests knobs part step) kind pid → deadline_of kind slack since ≡ None
charge_timeless knobs part step kind pid slack since h =
    timeless kind (first_timeless (charge_tests knobs part step) kind pid refl h) slack since

-- a processor has idled since a time, and this long after it is before a step's time
pub record IsDue (slack : ℕ) (since : Option ℕ) (deadline time : ℕ) : Type 0 where
  pub from : ℕ
  pub idles : since ≡ Some from
  pub deadline_is : deadline ≡ from + slack
  pub late : deadline < time

idle_due : (slack : ℕ) (since : Option ℕ) (deadline time pid : ℕ) → IsIdleTooLong slack since time pid
    → deadline_of IdleTooLong slack since ≡ Some deadline → IsDue slack since deadline time
idle_due slack None deadline time pid h e = absurd h
idle_due slack (Some x) deadline time pid h e =
    let same : x + slack ≡ deadline = same_some (Some (x + slack)) (x + slack) deadline refl e in
    record { from = x; idles = refl; deadline_is = sym same; late = subst (λ d. d < time) same h.0 }

-- a fault with a deadline is of a processor that had idled for too long
pub with_deadline : (knobs : KnobsView) (cpu : ℕ) (s : ReplayStateView) (step : Step) (kind : Kind) (pid deadline : ℕ)
    → FailsTest knobs cpu s step kind pid → deadline_of kind knobs.slack s.since ≡ Some deadline
    → IsDue knobs.slack s.since deadline step.time
with_deadline knobs cpu s step kind pid deadline (inl (inl h)) e =
    idle_due knobs.slack s.since deadline step.time pid h.0 (ap (λ k. deadline_of k knobs.slack s.since) (sym h.1) ∙ e)
with_deadline knobs cpu s step kind pid deadline (inl (inr h)) e =
    no_some deadline (sym (charge_timeless knobs s.part step kind pid knobs.slack s.since h.1) ∙ e)
with_deadline knobs cpu s step kind pid deadline (inr h) e =
    no_some deadline (sym (late_timeless knobs cpu h.0 step kind pid knobs.slack s.since h.3) ∙ e)

idle_has_deadline : (slack : ℕ) (since : Option ℕ) (time pid : ℕ) → IsIdleTooLong slack since time pid
    → deadline_of IdleTooLong slack since ≡ None → ⊥
idle_has_deadline slack None time pid h e = h
idle_has_deadline slack (Some x) time pid h e = some_no (x + slack) e

-- a fault without one is of a test on the part
pub without_deadline : (knobs : KnobsView) (cpu : ℕ) (s : ReplayStateView) (step : Step) (kind : Kind) (pid : ℕ)
    → FailsTest knobs cpu s step kind pid → deadline_of kind knobs.slack s.since ≡ None
    → FailsOn knobs cpu s.part step kind pid
without_deadline knobs cpu s step kind pid (inl (inl h)) e =
    absurd (idle_has_deadline knobs.slack s.since step.time pid h.0
    (ap (λ k. deadline_of k knobs.slack s.since) (sym h.1) ∙ e))
without_deadline knobs cpu s step kind pid (inl (inr h)) e = inl h.1
without_deadline knobs cpu s step kind pid (inr h) e = inr (h.1.1, (h.0, h.2, h.3))

-- a processor that has idled for too long at a step has that fault, with that deadline
pub idling_fails : (knobs : KnobsView) (cpu : ℕ) (s : ReplayStateView) (step : Step) (kind : Kind) (pid x : ℕ)
    → FailsTest knobs cpu s step kind pid → s.since ≡ Some x → x + knobs.slack < step.time
    → deadline_of kind knobs.slack s.since ≡ Some (x + knobs.slack)
idling_fails knobs cpu s step kind pid x fails e late = go fails
  where
    idles : IsIdleTooLong knobs.slack s.since step.time 0
    idles = subst (λ o. IsIdleTooLong knobs.slack o step.time 0) (sym e) (late, refl)

    go : FailsTest knobs cpu s step kind pid → deadline_of kind knobs.slack s.since ≡ Some (x + knobs.slack)
    go (inl (inl h)) = ap (λ k. deadline_of k knobs.slack s.since) h.1 ∙ ap (deadline_of IdleTooLong knobs.slack) e
    go (inl (inr h)) = absurd (h.0 0 idles)
    go (inr h) = absurd (h.1.0 0 idles)
