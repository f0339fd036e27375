-- The lines of the text are those of the pieces, and then those of the rest.
use Rattle.std.proofs.Common.{◌≡◌, ◌++◌, length}
use Rattle.std.specs.List.{flat_map}
use Rattle.text_parts.specs.Lines.{lines_of}
use Rattle.text_parts.proofs.cutting.cut_at_lines.Given as goal

abbrev pub invariant-loop-rest : goal.invariant-loop-rest
invariant-loop-rest l = lines_of l.text ≡ flat_map (λ piece. lines_of piece.now) l.pieces.items ++ lines_of l.rest

abbrev pub decreases-loop-rest : goal.decreases-loop-rest
decreases-loop-rest l = length l.rest
