use Rattle.std.proofs.Common.{ℕ, ◌≢◌, ◌≤◌, ◌<◌, get_or}
use Rattle.sched_event.proofs.fields.last_byte_of_sixteen.Given as goal

abbrev pub invariant-loop-index : goal.invariant-loop-index
invariant-loop-index l = record {
  within : l.last ≤ 15;
  none : (later : ℕ) → l.last < later → later < l.index → get_or l.text later 0 ≢ l.byte;
}
