use Rattle.std.proofs.Common.{◌≡◌, ◌+◌, None, All}
use Rattle.std.specs.Prelude.{vec_len}
use Rattle.audit_crew.proofs.members.members_of.Given as goal

abbrev pub invariant-loop-cpu : goal.invariant-loop-cpu
invariant-loop-cpu g l = record {
  parts : l.all.parts + l._cpu ≡ l.cpus;
  none : l.all.amount ≡ 0;
  count : vec_len l.members ≡ l._cpu;
  free : All (λ member. member.posted ≡ None) l.members.items;
  none_underway : All (λ member. member.underway ≡ None) l.members.items;
}
