use Rattle.std.proofs.Common.{◌≡◌, ◌<◌, ◌≤◌, ℕ, get_or}
use Rattle.window_audit.specs.Member.{replay_of}
use Rattle.window_audit.specs.States.{forgotten}
use Rattle.window_audit.specs.declared.member.Member.{Member}
use Rattle.window_audit.proofs.members.forget_all.Given as goal

abbrev pub invariant-loop-member : goal.invariant-loop-member
invariant-loop-member l = record {
  done : (k : ℕ) (d : Member) → k < l.member-index
      → replay_of (get_or l.members k d) ≡ forgotten (replay_of (get_or l.fn.members k d));
  rest : (k : ℕ) (d : Member) → l.member-index ≤ k → get_or l.members k d ≡ get_or l.fn.members k d;
}
