-- What the lines that are left say on from here, all lines of the text say on from its beginning.
use Rattle.std.proofs.Common.{length}
use Rattle.text_parts.specs.Lines.{lines_of}
use Rattle.companion_file.specs.Earlier.{Said}
use Rattle.companion_file.specs.Draft.{KeepsOrder}
use Rattle.companion_file.specs.Piecewise.{SaysOn}
use Rattle.companion_file.proofs.draft.Draft.take_all.Given as goal

abbrev pub invariant-loop-rest : goal.invariant-loop-rest
invariant-loop-rest l = record {
  order : KeepsOrder l.self;
  on : (after : Said) → SaysOn l.self (lines_of l.rest) after → SaysOn l.initial.self (lines_of l.text) after;
}

abbrev pub decreases-loop-rest : goal.decreases-loop-rest
decreases-loop-rest l = length l.rest
