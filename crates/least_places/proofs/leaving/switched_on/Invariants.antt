-- The switch on the line among the events that are still to be gone over is that among all.
use Rattle.std.proofs.Common.{◌≡◌, drop}
use Rattle.least_places.specs.Walks.{switched_on_line}
use Rattle.least_places.proofs.leaving.switched_on.Given as goal

abbrev pub invariant-loop-event : goal.invariant-loop-event
invariant-loop-event l =
    switched_on_line (drop l.event-index l.events) l.fn.line ≡ switched_on_line l.fn.events l.fn.line
