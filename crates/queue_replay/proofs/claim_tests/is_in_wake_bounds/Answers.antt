use Rattle.std.proofs.Common.{arith, ◌≡◌, ◌↔◌, ℤ, IsTrue, pos, ◌-ℤ◌, ◌≤ℤ◌, rules, subst, to_z, of_z, w64}
use Rattle.std.proofs.lemmas.Int.{ints, clamps}
use Rattle.queue_replay.proofs.Answered.{in_bounds}
use Rattle.queue_replay.proofs.claim_tests.is_in_wake_bounds.Goals as goal

pub returns-then-claim-task : goal.returns-then-claim-task
returns-then-claim-task c = (λ h. absurd cc, λ h. absurd (omega (arith, ints, clamps, h.0, c.if-claim-task.true)))

pub returns : goal.returns
returns c =
    let whole : to_z w64 (of_z w64 c.args.floor) ≡ c.args.floor = search rules in
    in_bounds c.args.credit c.args.floor c.args.task.v c.args.claim.v c.reaches_credit.result
    (omega (arith, ints, c.if-claim-task.false))
    (omega (arith, ints, clamps, c.max.ensures.value, c.if-claim-max.false))
    (subst (λ (f : ℤ). IsTrue c.reaches_credit.result
    ↔ ((f -ℤ pos c.args.credit) ≤ℤ c.args.claim.v)) whole c.reaches_credit.ensures)
