-- The lines that are left name the versions that all of them do.
use Rattle.std.proofs.Common.{length}
use Rattle.text_parts.specs.Lines.{lines_of}
use Rattle.companion_file.proofs.FirstLines.{AreOfSame}
use Rattle.companion_file.proofs.version.version_of_text.Given as goal

abbrev pub invariant-loop-rest : goal.invariant-loop-rest
invariant-loop-rest l = AreOfSame (lines_of l.text) (lines_of l.rest)

abbrev pub decreases-loop-rest : goal.decreases-loop-rest
decreases-loop-rest l = length l.rest
