-- The steps before the line are those that were counted and those before it among the ones still to be gone over.
use Rattle.std.proofs.Common.{◌≡◌, ◌+◌, drop}
use Rattle.fault_bounds.specs.Bounds.{steps_before}
use Rattle.fault_bounds.proofs.moment.count_before.Given as goal

abbrev pub invariant-loop-step : goal.invariant-loop-step
invariant-loop-step l =
    (steps_before l.fn.line l.fn.steps ≡ l.count + steps_before l.fn.line (drop l.step-index l.steps))
    × (l.count ≡ l.step-index)
