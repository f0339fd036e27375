-- The time on the line among the events that are still to be gone over is that among all.
use Rattle.std.proofs.Common.{◌≡◌, drop}
use Rattle.least_places.specs.Place.{time_on_line}
use Rattle.report_json.proofs.faults.time_on.Given as goal

abbrev pub invariant-loop-event : goal.invariant-loop-event
invariant-loop-event l = time_on_line (drop l.event-index l.events) l.fn.line ≡ time_on_line l.fn.events l.fn.line
