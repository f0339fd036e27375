use Rattle.std.proofs.Common.{◌≡◌, ◌<◌, min, length}
use Rattle.sched_event.specs.Reading.{last_index}
use Rattle.sched_event.proofs.fields.last_index.Given as goal

abbrev pub invariant-loop-limit : goal.invariant-loop-limit
invariant-loop-limit l = record {
  within : l.limit < length l.text;
  same : last_index (min 15 (length l.text)) l.key l.text ≡ last_index l.limit l.key l.text;
}

abbrev pub decreases-loop-limit : goal.decreases-loop-limit
decreases-loop-limit l = l.limit
