use Rattle.std.proofs.Common.{◌≡◌, take}
use Rattle.std.specs.Prelude.{not}
use Rattle.std.specs.List.{list_any}
use Rattle.text_parts.specs.Lines.{is_line_feed}
use Rattle.ftrace_line.proofs.usual.is_unbroken.Given as goal

abbrev pub invariant-loop-index : goal.invariant-loop-index
invariant-loop-index l = l.unbroken ≡ not (list_any is_line_feed (take l.index l.text))
