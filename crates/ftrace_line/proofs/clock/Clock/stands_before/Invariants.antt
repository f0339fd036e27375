use Rattle.std.proofs.Common.{◌≡◌, ℕ, ◌<◌, true, get_or, bit_and}
use Rattle.ftrace_line.proofs.clock.Clock.stands_before.Given as goal

abbrev pub invariant-loop-index : goal.invariant-loop-index
invariant-loop-index l = l.same ≡ true → (earlier : ℕ) → earlier < l.index
    → bit_and (get_or l.text earlier 0) (get_or l.self.mask earlier 0) ≡ get_or l.self.bytes earlier 0
