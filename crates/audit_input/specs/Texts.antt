-- What two texts mean together, and what refuses them (this project's profile). What each means by itself is said by
-- the crates that read them.
use Rattle.std.specs.Prelude.{◌≡◌, ◌↔◌, ℕ, Bool, IsTrue, List, Ok, Err}
use Rattle.cfs_model.specs.declared.act.Entry.{Entry}
use Rattle.companion_file.specs.Companion.{AreOfVersion, CompanionView, CompanionAnswer}
use Rattle.companion_file.specs.declared.fault.CompanionCause.{CompanionCause}
use Rattle.sched_record.specs.Trace.{TraceAnswer}
use Rattle.sched_record.specs.Record.{RecordView, RecordAnswer}
use Rattle.sched_record.specs.declared.cause.TraceCause.{TraceCause}
use Rattle.sched_record.specs.declared.joining.JoinCause.{JoinCause}
use Rattle.audit_input.specs.Causes.{trace_cause, companion_cause, join_cause}
use Rattle.audit_input.specs.declared.cause.Cause.{Cause}
use Rattle.audit_input.specs.declared.source.Source.{Source}
use Rattle.audit_input.specs.declared.source.Source.TheVariants.{Trace, Companion, Join}
use Rattle.text_parts.specs.Lines.{lines_of}

-- both texts can be read, and these are the trace's events and the companion's start, policies, claims and changes of
-- nice values
pub record AreBothRead (trace companion : List ℕ) (events : List Entry) (start : CompanionView) : Type 0 where
  pub trace_means : TraceAnswer trace (Ok events)
  pub companion_means : CompanionAnswer companion (Ok start)

-- both texts can be read, and joined they are this record
pub record IsRecordOf (trace companion : List ℕ) (r : RecordView) : Type 0 where
  pub events : List Entry
  pub start : CompanionView
  pub are_read : AreBothRead trace companion events start
  pub joined : RecordAnswer events start (Ok r)

-- the texts can be read, but they don't go together
pub record IsJoinRefused (trace companion : List ℕ) (line : ℕ) (cause : Cause) : Type 0 where
  pub events : List Entry
  pub start : CompanionView
  pub are_read : AreBothRead trace companion events start
  pub why : (c : JoinCause) × RecordAnswer events start (Err (line, c)) × (cause ≡ join_cause c)

-- a text is refused at this line for this cause: the trace before the companion, and both before their joining
abbrev pub IsRefused : List ℕ → List ℕ → Source → ℕ → Cause → Type 0
IsRefused trace companion Trace line cause =
    (c : TraceCause) × TraceAnswer trace (Err (line, c)) × (cause ≡ trace_cause c)
IsRefused trace companion Companion line cause =
    (events : List Entry) × (c : CompanionCause)
    × TraceAnswer trace (Ok events) × CompanionAnswer companion (Err (line, c)) × (cause ≡ companion_cause c)
IsRefused trace companion Join line cause = IsJoinRefused trace companion line cause

-- whether the companion tells charges: it names version 3 of its format
abbrev pub TellsCharges : List ℕ → Bool → Type 0
TellsCharges companion tells_charges = IsTrue tells_charges ↔ AreOfVersion (lines_of companion) 3
