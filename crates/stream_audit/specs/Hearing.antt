-- What a recording of any length comes to (this project's profile).
use Rattle.std.specs.Prelude.{◌≡◌, ℕ, ◌<◌, ◌≤◌, Bool, true, false, List, ◌++◌, Option, Result, OnOk, IsErrOf}
use Rattle.std.specs.Prelude.{IsNone, [], length}
use Rattle.std.specs.Io.KnownBytes.{IsAtEnd}
use Rattle.audit_input.specs.Known.{Agrees, IsCutShort, most_reads}
use Rattle.audit_input.specs.Texts.{IsRecordOf, IsRefused, TellsCharges}
use Rattle.audit_input.specs.declared.fault.Fault.{Fault}
use Rattle.audit_input.specs.declared.fault.Fault.TheVariants.{ReadTrace, ReadCompanion, Memory}
use Rattle.audit_input.specs.declared.refused.Refused.{Refused}
use Rattle.audit_input.specs.declared.refused.Refused.TheVariants as refusals
use Rattle.cfs_model.specs.Claimed.{Claimed}
use Rattle.stream_audit.specs.Aim.{AimView}
use Rattle.cfs_model.specs.declared.act.Entry.{Entry}
use Rattle.companion_file.specs.Earlier.{Said}
use Rattle.entry_reader.specs.Reader.{HasReadOut, entries_of}
use Rattle.entry_reader.specs.declared.reader.EntryReader.{EntryReader}
use Rattle.least_places.specs.Finding.{IsFinding}
use Rattle.sched_record.specs.Record.{RecordView}
use Rattle.text_parts.specs.Lines.{lines_of}
use Rattle.stream_audit.specs.Course.{AreEventsNext, AreJudged, IsCourseOf, IsDone, IsHandedOn, IsReadyFor}
use Rattle.stream_audit.specs.Course.{IsWholeCourse}
use Rattle.stream_audit.specs.declared.course.Course.{Course}
use Rattle.stream_audit.specs.declared.hearing.Hearing.{Hearing}
use Rattle.stream_audit.specs.declared.hearing.StreamOutcome.{StreamOutcome}
use Rattle.stream_audit.specs.declared.hearing.StreamOutcome.TheVariants.{Judged, Text}
use Rattle.stream_audit.specs.declared.judge.Judge.{Judge}

-- the outcome of a trace and its companion: what is found of their record, or why one of them is refused
abbrev pub IsOutcome : AimView → List ℕ → List ℕ → StreamOutcome → Type 0
IsOutcome aim trace companion (Judged finding) =
    (r : RecordView) × IsRecordOf trace companion r × IsFinding aim.least aim.knobs r finding
IsOutcome aim trace companion (Text source line cause) = IsRefused trace companion source line cause

-- a refusal is that of a trace and its companion; of want of memory nothing is said
abbrev pub IsRefusalOf : List ℕ → List ℕ → Refused → Type 0
IsRefusalOf trace companion (refusals.Text source line cause) = IsRefused trace companion source line cause
IsRefusalOf trace companion refusals.Memory = Unit {0}

-- it is that of the bytes that the two inputs still gave, and so is it whether the companion tells charges
pub record IsHearingOf (aim : AimView) (trace companion : Option (List ℕ)) (hearing : Hearing) : Type 0 where
  pub trace_bytes : List ℕ
  pub companion_bytes : List ℕ
  pub trace_whole : Agrees trace trace_bytes
  pub companion_whole : Agrees companion companion_bytes
  pub answer : IsOutcome aim trace_bytes companion_bytes hearing.outcome
  pub tells : TellsCharges companion_bytes hearing.tells_charges

-- of an input: the bytes that it has left, where they are known; the reads made of it, whether one failed, and whether
-- it has ended
pub record Input : Type 0 where
  pub left : Option (List ℕ)
  pub calls : ℕ
  pub has_failed : Bool
  pub has_ended : Bool

abbrev pub input_of : Option (List ℕ) → ℕ → Bool → Bool → Input
input_of left calls has_failed has_ended =
    record { left = left; calls = calls; has_failed = has_failed; has_ended = has_ended }

-- how two inputs are read that are read at once
pub record ReadsBoth {A : Type 0} (trace companion : Input) (result : Result A Fault) : Type 0 where
  -- where no fault is answered both were read to their ends, a refused trace and its companion too: nothing is left of
  -- them
  pub ended : OnOk result ((trace.has_ended ≡ true) × (companion.has_ended ≡ true))
  pub left : OnOk result (IsAtEnd trace.left × IsAtEnd companion.left)
  -- and no read failed
  pub heard : OnOk result ((trace.has_failed ≡ false) × (companion.has_failed ≡ false))
  -- an input's fault comes only where a read of it failed, or the most reads of it were made
  pub read_trace : IsErrOf result ReadTrace → IsCutShort trace.has_failed trace.calls
  pub read_companion : IsErrOf result ReadCompanion → IsCutShort companion.has_failed companion.calls
  -- memory is wanted only where no read failed
  pub memory : IsErrOf result Memory → (trace.has_failed ≡ false) × (companion.has_failed ≡ false)
  -- each is read by at most the most reads
  pub bounded : (trace.calls ≤ most_reads) × (companion.calls ≤ most_reads)
  -- and the companion's fault is told only where the trace has none: it was read to its end
  pub order : IsErrOf result ReadCompanion → (trace.has_ended ≡ true) × (trace.has_failed ≡ false)

-- these bytes of a trace were read, and a course joined all events of theirs that were taken out, and handed these on
pub record IsHeardBy (aim : AimView) (gave left : Option (List ℕ)) (bytes : List ℕ) (reader : EntryReader)
    (course : Course) (handed : List Claimed) : Type 0
  where
    pub events : List Entry
    pub has_read : HasReadOut reader (lines_of bytes) events
    pub said : Said
    pub so_far : IsCourseOf aim gave left course said events handed

-- the same, but for these events, which were taken out and come next
pub record IsPending (aim : AimView) (gave left : Option (List ℕ)) (bytes : List ℕ) (reader : EntryReader)
    (course : Course) (handed : List Claimed) (events : List Entry) : Type 0
  where
    pub before : List Entry
    pub has_read : HasReadOut reader (lines_of bytes) (before ++ events)
    pub said : Said
    pub so_far : IsCourseOf aim gave left course said before handed
    pub next : 0 < length events → AreEventsNext before events

-- all events that were taken out were joined, what was joined was handed on, and judged but for a window
pub record IsHeard (aim : AimView) (gave left : Option (List ℕ)) (bytes : List ℕ) (reader : EntryReader)
    (course : Course) (judge : Option Judge) : Type 0
  where
    pub handed : List Claimed
    pub by : IsHeardBy aim gave left bytes reader course handed
    pub judged : AreJudged course handed judge
    pub handed_on : IsHandedOn course

-- these bytes of a trace were read, all events of theirs were taken out, and a course joined those before these, for
-- which it is ready
pub record IsReady (aim : AimView) (gave left : Option (List ℕ)) (bytes : List ℕ) (reader : EntryReader)
    (course : Course) (handed : List Claimed) (events : List Entry) : Type 0
  where
    pub before : List Entry
    pub has_read : HasReadOut reader (lines_of bytes) (before ++ events)
    pub ready : IsReadyFor aim gave left course before handed events

-- both texts were read whole: the trace is these bytes, and the companion is this text; of a trace of which no line is
-- bad all events were joined
pub record AreBothDone (trace : EntryReader) (course : Course) (judge : Option Judge) (bytes text : List ℕ) : Type 0
  where
    pub events : List Entry
    pub has_read : HasReadOut trace (lines_of bytes) events
    pub taken : IsNone trace.bad → entries_of trace ≡ []
    pub done : IsDone course.companion text
    pub joined : IsNone trace.bad → IsWholeCourse course.aim course text events judge
