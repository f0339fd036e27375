use Rattle.std.proofs.Common.{◌≤◌, ◌-◌, take}
use Rattle.text_parts.specs.Unbroken.{IsUnbroken}
use Rattle.sched_event.proofs.usual_fields.spaced_length.Given as goal

abbrev pub invariant-loop-index : goal.invariant-loop-index
invariant-loop-index l = record { within : l.index ≤ 16; unbroken : IsUnbroken (take l.index l.text) }

abbrev pub decreases-loop-index : goal.decreases-loop-index
decreases-loop-index l = 17 - l.index
