use Rattle.std.proofs.Common.{pos, ◌-ℤ◌, ◌<ℤ◌, refl, arith}
use Rattle.std.proofs.lemmas.Int.{ints}
use Rattle.cfs_model.specs.Charge.{greatest}
use Rattle.runqueue.proofs.Charges.{too_far, near_enough}
use Rattle.runqueue.proofs.charging.charged.Goals as goal

pub returns-then-task-cost : goal.returns-then-task-cost
returns-then-task-cost c =
    let cost = c.in-Some.cost in
    let far : (pos greatest -ℤ cost) <ℤ c.args.task.v = omega (arith, ints, c.if-task-cost.true, c.in-Some.ensures) in
    record {
      fits = tt;
      above = (
        refl,
        too_far c.args.delta c.args.task c.weight_of.result cost c.weight_of.ensures.policy c.in-Some.ensures.1
            far,
      );
    }

pub returns : goal.returns
returns c =
    let cost = c.in-Some.cost in
    record {
      fits = near_enough c.args.delta c.args.task c.weight_of.result cost _ c.weight_of.ensures.policy
          c.in-Some.ensures.0 c.in-Some.ensures.1 (omega (arith, ints, c.if-task-cost.false, c.in-Some.ensures))
          (omega (arith, ints, c.if-task-cost.false, c.in-Some.ensures));
      above = tt;
    }
