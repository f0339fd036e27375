use Rattle.std.proofs.Common.{◌≡◌, ◌-◌, ◌≤◌, ◌++◌, min, take, drop, length}
use Rattle.companion_file.proofs.draft.holding.forget_first.Given as goal

-- as many as were passed have the elements that stand so much further on
abbrev pub invariant-loop-index : goal.invariant-loop-index
invariant-loop-index g l = record {
  gone : l.gone ≡ min l.passed (length l.initial.list.items - 1);
  left : l.left ≡ length l.initial.list.items - l.gone;
  within : l.index ≤ l.left;
  items : l.list.items ≡ take l.index (drop l.gone l.initial.list.items) ++ drop l.index l.initial.list.items;
}
