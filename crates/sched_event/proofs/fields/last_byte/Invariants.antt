use Rattle.std.proofs.Common.{ℕ, ◌≢◌, ◌≤◌, ◌<◌, get_or}
use Rattle.sched_event.proofs.fields.last_byte.Given as goal

abbrev pub invariant-loop-index : goal.invariant-loop-index
invariant-loop-index l = record {
  within : l.index ≤ l.limit;
  none : (later : ℕ) → l.index < later → later ≤ l.limit → get_or l.text later 0 ≢ l.byte;
}

abbrev pub decreases-loop-index : goal.decreases-loop-index
decreases-loop-index l = l.index
