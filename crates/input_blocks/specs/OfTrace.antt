-- How the reader of a trace reads lines (this project's profile).
use Rattle.std.specs.Prelude.{ℕ, List, [], ◌++◌, Option}
use Rattle.std.proofs.Common.{sym, subst, append_assoc, append-nil}
use Rattle.audit_input.specs.Known.{Agrees}
use Rattle.sched_record.specs.Reader.{HasRead}
use Rattle.sched_record.specs.declared.trace_reader.TraceReader.{TraceReader}
use Rattle.text_parts.specs.Lines.{lines_of}

-- it has read the lines of all that an input gave
abbrev pub IsReadFrom : TraceReader → Option (List ℕ) → Type 0
IsReadFrom reader gave = (text : List ℕ) × Agrees gave text × HasRead reader (lines_of text)

-- behind any lines that the one has read the other has read these
abbrev pub ReadsTrace : TraceReader → TraceReader → List (List ℕ) → Type 0
ReadsTrace old new more = (lines : List (List ℕ)) → HasRead old lines → HasRead new (lines ++ more)

pub reads_none : (reader : TraceReader) → ReadsTrace reader reader []
reads_none reader lines read = subst (HasRead reader) (sym (append-nil lines)) read

pub reads_on : (old mid new : TraceReader) (lines more : List (List ℕ)) → ReadsTrace old mid lines
    → ReadsTrace mid new more → ReadsTrace old new (lines ++ more)
reads_on old mid new lines more one next before read =
    subst (HasRead new) (append_assoc before lines more) (next (before ++ lines) (one before read))
