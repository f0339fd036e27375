-- A trace that is read some lines at a time, and whose events are taken out as they are used (this project's profile:
-- what is read in parts means what the whole means).
use Rattle.std.specs.Prelude.{◌≡◌, ℕ, List, ◌++◌, MatchOption, Result, Ok, Err}
use Rattle.cfs_model.specs.declared.act.Entry.{Entry}
use Rattle.entry_reader.specs.declared.reader.EntryReader.{EntryReader}
use Rattle.sched_record.specs.ReadLines.{AreKept, AreRead}
use Rattle.sched_record.specs.Trace.{AreEventsOf, IsFirstBadTraceLine}
use Rattle.sched_record.specs.declared.cause.TraceFault.{TraceFault}
use Rattle.sched_record.specs.declared.cause.TraceFault.TheVariants.{Text, Memory}

-- the events that were read and not yet taken out
abbrev pub entries_of : EntryReader → List Entry
entries_of reader = reader.entries.items

-- none of these lines is bad, and of their events these were taken out and the others are held; they are in order
pub record IsReadOut (reader : EntryReader) (lines : List (List ℕ)) (given : List Entry) : Type 0 where
  pub read : AreRead lines reader.count reader.last (given ++ entries_of reader)
  pub kept : AreKept (given ++ entries_of reader) reader.count reader.last

-- a reader has read these lines, and has given out these of their events; or it has the first bad line and why it is
-- bad
abbrev pub HasReadOut : EntryReader → List (List ℕ) → List Entry → Type 0
HasReadOut reader lines given =
    MatchOption reader.bad (IsReadOut reader lines given) (λ bad. IsFirstBadTraceLine lines bad.line bad.cause)

-- a reader has read these lines and some of those that follow, the first ones
abbrev pub HasReadOutFront : EntryReader → List (List ℕ) → List (List ℕ) → List Entry → Type 0
HasReadOutFront reader lines more given =
    (front : List (List ℕ)) × (rest : List (List ℕ)) × (more ≡ front ++ rest) × HasReadOut reader (lines ++ front) given

-- what is answered of all lines: nothing where they are these events', else the first bad one; want of memory is never
-- answered
abbrev pub EndsSo : Result Unit TraceFault → List (List ℕ) → List Entry → Type 0
EndsSo (Ok _) lines events = AreEventsOf lines events
EndsSo (Err (Text line cause)) lines events = IsFirstBadTraceLine lines line cause
EndsSo (Err Memory) lines events = ⊥
