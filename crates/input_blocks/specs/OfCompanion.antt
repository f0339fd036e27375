-- How the reader of a companion reads lines (this project's profile).
use Rattle.std.specs.Prelude.{ℕ, List, [], ◌++◌}
use Rattle.companion_file.specs.Reader.{ReadsOn}
use Rattle.companion_file.specs.declared.companion_reader.CompanionReader.{CompanionReader}
use Rattle.companion_file.proofs.Reader.{reads_nothing, reads_then}

-- the one is the other once it has read these lines
abbrev pub ReadsCompanion : CompanionReader → CompanionReader → List (List ℕ) → Type 0
ReadsCompanion old new more = ReadsOn old more new

pub reads_none : (reader : CompanionReader) → ReadsCompanion reader reader []
reads_none reader = reads_nothing reader

pub reads_on : (old mid new : CompanionReader) (lines more : List (List ℕ)) → ReadsCompanion old mid lines
    → ReadsCompanion mid new more → ReadsCompanion old new (lines ++ more)
reads_on old mid new lines more one next = reads_then old mid new lines more one next
