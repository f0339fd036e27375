-- How the reader of a trace whose events are taken out reads lines (this project's profile).
use Rattle.std.specs.Prelude.{ℕ, List, [], ◌++◌}
use Rattle.std.proofs.Common.{sym, subst, append_assoc, append-nil}
use Rattle.cfs_model.specs.declared.act.Entry.{Entry}
use Rattle.entry_reader.specs.Reader.{HasReadOut}
use Rattle.entry_reader.specs.declared.reader.EntryReader.{EntryReader}

-- behind any lines that the one has read, and of whose events it has given out some, the other has read these, too
abbrev pub ReadsEntries : EntryReader → EntryReader → List (List ℕ) → Type 0
ReadsEntries old new more =
    (lines : List (List ℕ)) (given : List Entry) → HasReadOut old lines given → HasReadOut new (lines ++ more) given

pub reads_none : (reader : EntryReader) → ReadsEntries reader reader []
reads_none reader lines given read = subst (λ ls. HasReadOut reader ls given) (sym (append-nil lines)) read

pub reads_on : (old mid new : EntryReader) (lines more : List (List ℕ)) → ReadsEntries old mid lines
    → ReadsEntries mid new more → ReadsEntries old new (lines ++ more)
reads_on old mid new lines more one next before given read =
    subst (λ ls. HasReadOut new ls given) (append_assoc before lines more)
    (next (before ++ lines) given (one before given read))
