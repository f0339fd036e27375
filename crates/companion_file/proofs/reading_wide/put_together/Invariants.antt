-- The pieces so far stand behind what was said, and those that are left have their lines.
use Rattle.std.proofs.Common.{ℕ, List}
use Rattle.companion_file.specs.Piecewise.{AreReadApart, head_of}
use Rattle.companion_file.proofs.Piecewise.{ArePiecesLeft}
use Rattle.companion_file.proofs.reading_wide.put_together.Given as goal

abbrev pub invariant-loop-later : goal.invariant-loop-later
invariant-loop-later l = (lines : List (List ℕ)) → AreReadApart (head_of l.initial.draft) lines l.fn.drafts.items
    → ArePiecesLeft l.initial.draft l.draft lines l.later-iterator.rest.items
