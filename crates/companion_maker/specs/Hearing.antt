-- How a trace is heard (this project's profile).
use Rattle.std.specs.Prelude.{ℕ, List, [], ◌++◌}
use Rattle.companion_maker.specs.declared.hearing.Hearing.{Hearing}
use Rattle.input_blocks.specs.OfTrace.{ReadsTrace, reads_none, reads_on}

-- the events are read as the reader of a trace reads them
abbrev pub reads_hearing : Hearing → Hearing → List (List ℕ) → Type 0
reads_hearing old new lines = ReadsTrace old.trace new.trace lines

pub hears_none : (hearing : Hearing) → reads_hearing hearing hearing []
hears_none hearing = reads_none hearing.trace

pub hears_on : (old mid new : Hearing) (lines more : List (List ℕ)) → reads_hearing old mid lines
    → reads_hearing mid new more → reads_hearing old new (lines ++ more)
hears_on old mid new lines more = reads_on old.trace mid.trace new.trace lines more
