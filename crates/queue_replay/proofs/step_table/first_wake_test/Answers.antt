use Rattle.std.proofs.Common.{ℕ, [], Option, None, Some, inl, inr, refl, subst}
use Rattle.replay_model.specs.ClaimTests.{IsWakeOutside}
use Rattle.replay_model.specs.declared.step.Deed.TheVariants.{Wake}
use Rattle.runqueue.specs.Queue.{runqueue_view}
use Rattle.queue_replay.specs.FirstTest.{IsFirst}
use Rattle.queue_replay.specs.Rows.{bounds_tests, claim_tests}
use Rattle.queue_replay.proofs.Rows.{claims_first}
use Rattle.queue_replay.proofs.step_table.first_wake_test.Goals as goal

pub returns-in-Some-clause-first : goal.returns-in-Some-clause-first
returns-in-Some-clause-first c = inl (c.in-Some.ensures (runqueue_view c.args.queue.now) c.requires, refl)

pub returns-in-Some-wrong_prio-clause-first : goal.returns-in-Some-wrong_prio-clause-first
returns-in-Some-wrong_prio-clause-first c = inr (
  c.in_default.ensures (runqueue_view c.args.queue.now) c.requires,
  inl
      (c.in-Some-wrong_prio.ensures (runqueue_view c.args.queue.now) c.requires, refl),
)

pub returns-in-Some-first_claim_test-clause-first : goal.returns-in-Some-first_claim_test-clause-first
returns-in-Some-first_claim_test-clause-first c =
    let part = runqueue_view c.args.queue.now in
    let claim = c.args.step.now.claim in
    let fault = c.in-Some-first_claim_test.fault in
    let first = subst (λ (n : Option ℕ). IsFirst (Some fault) (claim_tests n claim []))
    (c.if_resting.ensures part c.requires) c.in-Some-first_claim_test.ensures.first in
    let rest = bounds_tests c.args.knobs.now.credit part (Wake c.args.pid c.args.nice) claim in
    let among = claims_first _ _ rest fault.kind fault.pid first in
    inr (c.in_default.ensures part c.requires, inr (c.in_default-wrong_prio.ensures part c.requires, among))

pub returns-in-Some-wake_outside-clause-first : goal.returns-in-Some-wake_outside-clause-first
returns-in-Some-wake_outside-clause-first c =
    let part = runqueue_view c.args.queue.now in
    let claim = c.args.step.now.claim in
    let none = subst (λ (n : Option ℕ). IsFirst None (claim_tests n claim [])) (c.if_resting.ensures part c.requires)
    c.in_default-first_claim_test.ensures.first in
    let outside = subst
    (λ (k : ℕ). IsWakeOutside k part (Wake c.args.pid c.args.nice) claim c.in-Some-wake_outside.pid)
    c.credit.ensures.same (c.in-Some-wake_outside.ensures c.args.nice) in
    inr (
      c.in_default.ensures part c.requires,
      inr (
        c.in_default-wrong_prio.ensures part c.requires,
        inr (none.0, inr (none.1.0, inr (none.1.1.0, inl (outside, refl)))),
      ),
    )

pub returns-clause-first : goal.returns-clause-first
returns-clause-first c =
    let part = runqueue_view c.args.queue.now in
    let claim = c.args.step.now.claim in
    let none = subst (λ (n : Option ℕ). IsFirst None (claim_tests n claim [])) (c.if_resting.ensures part c.requires)
    c.in_default-first_claim_test.ensures.first in
    let within = subst (λ (k : ℕ). (p : ℕ) → ¬ IsWakeOutside k part (Wake c.args.pid c.args.nice) claim p)
    c.credit.ensures.same (c.in_default-wake_outside.ensures c.args.nice) in (
      c.in_default.ensures part c.requires,
      (c.in_default-wrong_prio.ensures part c.requires, (none.0, (none.1.0, (none.1.1.0, (within, tt))))),
    )
