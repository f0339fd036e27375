use Rattle.std.proofs.Common.{ℕ, ◌<◌, ◌≤◌, length, ◌-◌, slice_index_or}
use Rattle.window_joining.proofs.between.count_from.Given as goal

abbrev pub invariant-loop-index : goal.invariant-loop-index
invariant-loop-index g l = record {
  above : l.from ≤ l.index;
  within : l.index ≤ length l.items;
  below : (k : ℕ) (d : g.row.T.Denot) → l.from ≤ k → k < l.index
      → g.T.OnLine.line (slice_index_or l.items k d) ≤ l.line;
}

abbrev pub decreases-loop-index : goal.decreases-loop-index
decreases-loop-index g l = length l.items - l.index
