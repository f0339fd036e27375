use Rattle.std.proofs.Common.{◌+◌, ◌++◌, inl, length, refl, subst}
use Rattle.text_parts.specs.Lines.{lines_of}
use Rattle.recording_audit.specs.Causes.{IsKnown}
use Rattle.recording_audit.proofs.piece.next_piece.Goals as goal

-- what was known is the cause of the cut
pub returns-in-Some-clause-refused : goal.returns-in-Some-clause-refused
returns-in-Some-clause-refused g c =
    λ before known. c.cut_piece.ensures.refused before before (inl refl)
    (subst (IsKnown (before ++ c.args.text.now) (length (lines_of before) + 1)) c.in-Some.is known)

-- else it is found out from this line on
pub returns-in-0-clause-refused : goal.returns-in-0-clause-refused
returns-in-0-clause-refused g c = λ before known. c.longest_piece.ensures.refused before

pub returns-in_default-comment_lines-clause-refused : goal.returns-in_default-comment_lines-clause-refused
returns-in_default-comment_lines-clause-refused g c = λ before known. c.piece_before.ensures.refused before
