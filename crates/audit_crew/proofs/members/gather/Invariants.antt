use Rattle.std.proofs.Common.{◌≡◌, ◌+◌, ◌≤◌, length}
use Rattle.audit_crew.proofs.members.gather.Given as goal

abbrev pub invariant-loop-member : goal.invariant-loop-member
invariant-loop-member g l = record {
  can_next : (goal.iterator-loop-member g).can_next l.member-iterator;
  is_finite : (goal.iterator-loop-member g).is_finite l.member-iterator;
  parts : l.all.parts ≡ l.initial.all.parts + length l.yielded;
  amount : l.all.amount ≡ l.posted;
  at_most : l.posted ≤ length l.yielded;
}
