use Rattle.std.proofs.Common.{◌≡◌, ℕ, ◌<◌, get_or, length}
use Rattle.ftrace_line.proofs.clock.Clock.of.Given as goal

abbrev pub invariant-loop-index : goal.invariant-loop-index
invariant-loop-index l = record {
  long : length l.bytes ≡ 16;
  wide : length l.mask ≡ 16;
  same : (earlier : ℕ) → earlier < l.index → get_or l.bytes earlier 0 ≡ get_or l.text earlier 0;
  masked : (earlier : ℕ) → earlier < l.index → get_or l.mask earlier 0 ≡ 255;
}
