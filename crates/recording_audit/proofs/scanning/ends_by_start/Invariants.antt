-- The lines that are gone, and then those that are left, are the text's.
use Rattle.std.proofs.Common.{◌≡◌, ◌++◌, ℕ, List, length}
use Rattle.text_parts.specs.Lines.{lines_of}
use Rattle.recording_audit.proofs.scanning.ends_by_start.Given as goal

abbrev pub invariant-loop-rest : goal.invariant-loop-rest
invariant-loop-rest l = (gone : List (List ℕ)) × (lines_of l.text ≡ gone ++ lines_of l.rest)

abbrev pub decreases-loop-rest : goal.decreases-loop-rest
decreases-loop-rest l = length l.rest
