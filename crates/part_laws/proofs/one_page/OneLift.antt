-- A part has at most one lift, one way in which a deed finds it and one since, and what the first test that holds says
-- is against none holding.
use Rattle.std.proofs.Common.{◌≡◌, ℕ, Option, ℤ, ◌≤ℤ◌, inl, inr, List, [], ◌∷◌, sym, ap, ◌∙◌, subst, arith}
use Rattle.std.proofs.lemmas.Int.{ints}
use Rattle.std.specs.Int.{int_max}
use Rattle.cfs_model.specs.Knobs.{KnobsView}
use Rattle.replay_model.specs.Part.{Part, charged_part, told_part, IsLeastHere, IsRaisedHere, IsLiftedPart}
use Rattle.replay_model.specs.Found.{IsFound}
use Rattle.replay_model.specs.Deeds.{reniced}
use Rattle.replay_model.specs.AfterDeed.{after_deed}
use Rattle.replay_model.specs.QueueTests.{IsIdleTooLong}
use Rattle.replay_model.specs.Tests.{Test, NoneHolds, FirstHolds, early_tests, late_tests}
use Rattle.replay_model.specs.Page.{ReplayStateView, IsSince, PassesStep, FailsTest, FailsStep}
use Rattle.part_laws.specs.TouchedParts.{PartStep}
use Rattle.cfs_model.specs.declared.charge_line.ChargeLine.{ChargeLine}
use Rattle.cfs_model.specs.declared.kind.Kind.{Kind}
use Rattle.replay_model.specs.declared.step.Step.{Step}

same_least : (p : Part) (v w : ℤ) → IsLeastHere p v → IsLeastHere p w → v ≡ w
same_least p v w a b =
    let h : v ≤ℤ w = subst (λ x. v ≤ℤ x) b.runtime (a.least b.pid b.task b.stands b.queued) in
    let k : w ≤ℤ v = subst (λ x. w ≤ℤ x) a.runtime (b.least a.pid a.task a.stands a.queued) in
    omega (arith, ints)

same_floor : (p : Part) (f g : ℤ) → IsRaisedHere p f → IsRaisedHere p g → f ≡ g
same_floor p f g (inl a) (inl b) = a.1 ∙ sym b.1
same_floor p f g (inl a) (inr b) = absurd (a.0 b.1.pid b.1.task b.1.stands b.1.queued)
same_floor p f g (inr a) (inl b) = absurd (b.0 a.1.pid a.1.task a.1.stands a.1.queued)
same_floor p f g (inr a) (inr b) = a.2 ∙ ap (int_max p.floor) (same_least p a.0 b.0 a.1 b.1) ∙ sym b.2

-- at most one lift
pub same_lift : (time : ℕ) (charge : Option ChargeLine) (before one other : Part) → IsLiftedPart time charge before one
    → IsLiftedPart time charge before other → one ≡ other
same_lift time charge before one other a b =
    let told = told_part charge (charged_part before time) in
    a.result ∙ ap (λ f. record told { floor = f }) (same_floor told a.floor b.floor a.raised b.raised) ∙ sym b.result

-- at most one part as a deed finds it
pub same_found : (step : Step) (before one other : Part) → IsFound step before one → IsFound step before other
    → one ≡ other
same_found step before one other a b =
    a.is_reniced ∙ ap (reniced step.nice) (same_lift step.time step.charge before a.lifted b.lifted a.is_lifted
    b.is_lifted)
    ∙ sym b.is_reniced

-- at most one since
pub same_since : (before : Option ℕ) (time : ℕ) (part : Part) (one other : Option ℕ) → IsSince before time part one
    → IsSince before time part other → one ≡ other
same_since before time part one other (inl a) (inl b) = a.1 ∙ sym b.1
same_since before time part one other (inl a) (inr b) = absurd (b.0 a.0)
same_since before time part one other (inr a) (inl b) = absurd (a.0 b.0)
same_since before time part one other (inr a) (inr b) = a.1 ∙ sym b.1

-- where no test holds, none is the first
pub none_first : (tests : List Test) (kind : Kind) (pid : ℕ) → NoneHolds tests → FirstHolds tests kind pid → ⊥
none_first [] kind pid none first = first
none_first (test ∷ tests) kind pid none (inl h) = none.0 pid h.0
none_first (test ∷ tests) kind pid none (inr h) = none_first tests kind pid none.1 h.1

-- a step of the part that keeps the slack doesn't fail
pub step_no_fault : (knobs : KnobsView) (cpu : ℕ) (before : ReplayStateView) (step : Step) (part : Part)
    (after : ReplayStateView)
    → PartStep knobs cpu before.part step part
    → ((pid : ℕ) → ¬ IsIdleTooLong knobs.slack before.since step.time pid) → FailsStep knobs cpu before step after → ⊥
step_no_fault knobs cpu before step part after s in_time f = go f.fails
  where
    go : FailsTest knobs cpu before step f.kind f.pid → ⊥
    go (inl early) = none_first (early_tests knobs before.since before.part step) f.kind f.pid
        (in_time, (s.passes.in_range, (s.passes.told, tt))) early
    go (inr late) =
        none_first (late_tests knobs cpu late.0 step) f.kind f.pid
        (subst (λ p. NoneHolds (late_tests knobs cpu p step))
        (same_found step before.part s.found late.0 s.passes.is_found late.2) s.passes.none) late.3

-- the part after a step that passes is that of the part's step
pub step_same_part : (knobs : KnobsView) (cpu : ℕ) (before : ReplayStateView) (step : Step) (part : Part)
    (after : ReplayStateView)
    → PartStep knobs cpu before.part step part
    → PassesStep knobs cpu before step after → after.part ≡ part
step_same_part knobs cpu before step part after s p =
    p.part ∙ ap (λ x. after_deed x step.deed step.claim)
    (same_found step before.part p.found s.found p.passes.is_found s.passes.is_found) ∙ sym s.result
