use Rattle.std.proofs.Common.{ℕ, [], Option, None, Some, inl, inr, refl, subst}
use Rattle.runqueue.specs.Queue.{runqueue_view}
use Rattle.queue_replay.specs.FirstTest.{IsFirst}
use Rattle.queue_replay.specs.Rows.{claim_tests, moving_tests, switch_deed}
use Rattle.queue_replay.proofs.Rows.{claims_first}
use Rattle.queue_replay.proofs.step_table.first_switch_test.Goals as goal

pub returns-in-Some-first_claim_test-clause-first : goal.returns-in-Some-first_claim_test-clause-first
returns-in-Some-first_claim_test-clause-first c knobs =
    let part = runqueue_view c.args.queue.now in
    let claim = c.args.step.now.claim in
    let fault = c.in-Some-first_claim_test.fault in
    let prio = c.in_default-wrong_prio.ensures part c.requires.prev c.requires.next in
    let first = subst (λ (n : Option ℕ). IsFirst (Some fault) (claim_tests n claim [])) (c.claimant.ensures part)
    c.in-Some-first_claim_test.ensures.first in
    let rest = moving_tests knobs part (switch_deed c.args.switch.now) claim in
    let among = claims_first _ _ rest fault.kind fault.pid first in
    inr (c.in_default.ensures, inr (c.in_default-prev_not_running.ensures, inr (prio, among)))

pub returns-in-Some-wrong_put_back-clause-first : goal.returns-in-Some-wrong_put_back-clause-first
returns-in-Some-wrong_put_back-clause-first c knobs =
    let part = runqueue_view c.args.queue.now in
    let prio = c.in_default-wrong_prio.ensures part c.requires.prev c.requires.next in
    let none = subst (λ (n : Option ℕ). IsFirst None (claim_tests n c.args.step.now.claim []))
    (c.claimant.ensures part) c.in_default-first_claim_test.ensures.first in
    let back = c.in-Some-wrong_put_back.ensures part c.requires.prev in
    inr (
      c.in_default.ensures,
      inr (
        c.in_default-prev_not_running.ensures,
        inr (prio, inr (none.0, inr (none.1.0, inr (none.1.1.0, inl (back, refl))))),
      ),
    )

pub returns-in-Some-next_not_waiting-clause-first : goal.returns-in-Some-next_not_waiting-clause-first
returns-in-Some-next_not_waiting-clause-first c knobs =
    let part = runqueue_view c.args.queue.now in
    let prio = c.in_default-wrong_prio.ensures part c.requires.prev c.requires.next in
    let none = subst (λ (n : Option ℕ). IsFirst None (claim_tests n c.args.step.now.claim []))
    (c.claimant.ensures part) c.in_default-first_claim_test.ensures.first in
    let back = c.in_default-wrong_put_back.ensures part c.requires.prev in
    let waits = c.in-Some-next_not_waiting.ensures part c.requires.next in
    inr (
      c.in_default.ensures,
      inr (
        c.in_default-prev_not_running.ensures,
        inr (prio, inr (none.0, inr (none.1.0, inr (none.1.1.0, inr (back, inl (waits, refl)))))),
      ),
    )

pub returns-clause-first : goal.returns-clause-first
returns-clause-first c knobs None h =
    let part = runqueue_view c.args.queue.now in
    let prio = c.in_default-wrong_prio.ensures part c.requires.prev c.requires.next in
    let none = subst (λ (n : Option ℕ). IsFirst None (claim_tests n c.args.step.now.claim []))
    (c.claimant.ensures part) c.in_default-first_claim_test.ensures.first in
    let back = c.in_default-wrong_put_back.ensures part c.requires.prev in
    let waits = c.in_default-next_not_waiting.ensures part c.requires.next in (
      c.in_default.ensures,
      (c.in_default-prev_not_running.ensures, (prio, (none.0, (none.1.0, (none.1.1.0, (back, (waits, h))))))),
    )
returns-clause-first c knobs (Some failed) h =
    let part = runqueue_view c.args.queue.now in
    let prio = c.in_default-wrong_prio.ensures part c.requires.prev c.requires.next in
    let none = subst (λ (n : Option ℕ). IsFirst None (claim_tests n c.args.step.now.claim []))
    (c.claimant.ensures part) c.in_default-first_claim_test.ensures.first in
    let back = c.in_default-wrong_put_back.ensures part c.requires.prev in
    let waits = c.in_default-next_not_waiting.ensures part c.requires.next in
    inr (
      c.in_default.ensures,
      inr (
        c.in_default-prev_not_running.ensures,
        inr (prio, inr (none.0, inr (none.1.0, inr (none.1.1.0, inr (back, inr (waits, h)))))),
      ),
    )
