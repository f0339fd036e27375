use Rattle.std.proofs.Common.{◌≤◌, length}
use Rattle.sched_record.proofs.indices.Indices.set_hints.Given as goal

abbrev pub invariant-loop-hint : goal.invariant-loop-hint
invariant-loop-hint l = record {
  claim : l.last.claim ≤ length l.claims;
  nice : l.last.nice ≤ length l.nices;
  charge : l.last.charge ≤ length l.charges;
}
