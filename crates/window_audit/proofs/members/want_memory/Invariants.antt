use Rattle.std.proofs.Common.{◌≡◌, ◌<◌, ℕ, false, get_or}
use Rattle.window_audit.specs.declared.member.Member.{Member}
use Rattle.window_audit.proofs.members.want_memory.Given as goal

abbrev pub invariant-loop-member : goal.invariant-loop-member
invariant-loop-member l =
    (k : ℕ) (d : Member) → k < l.member-index → (get_or l.members k d).wants_memory ≡ false
