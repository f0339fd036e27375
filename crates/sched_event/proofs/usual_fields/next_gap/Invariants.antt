use Rattle.std.proofs.Common.{◌≤◌, ◌-◌, take}
use Rattle.text_parts.specs.Unbroken.{IsUnbroken}
use Rattle.sched_event.proofs.usual_fields.next_gap.Given as goal

abbrev pub invariant-loop-index : goal.invariant-loop-index
invariant-loop-index l = record {
  later : l.from ≤ l.index;
  within : l.index ≤ 16;
  unbroken : IsUnbroken (take l.index l.text);
}

abbrev pub decreases-loop-index : goal.decreases-loop-index
decreases-loop-index l = 16 - l.index
