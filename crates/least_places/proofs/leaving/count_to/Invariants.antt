-- As many steps were gone over, and those that are still to be counted make up the rest.
use Rattle.std.proofs.Common.{◌≡◌, ◌+◌, drop}
use Rattle.least_places.specs.Walks.{steps_to}
use Rattle.least_places.proofs.leaving.count_to.Given as goal

abbrev pub invariant-loop-step : goal.invariant-loop-step
invariant-loop-step l =
    (l.count ≡ l.step-index)
    × (steps_to l.fn.line l.fn.steps ≡ l.step-index + steps_to l.fn.line (drop l.step-index l.steps))
