-- The parts of a recording: stretches that were judged, cuts, and lines without an event (this project's profile).
use Rattle.std.specs.Prelude.{◌≡◌, ◌≢◌, ℕ, ◌<◌, ◌≤◌, ⊤, List, [], ◌∷◌, ◌++◌, length, Option, None, Some, Ok, Err}
use Rattle.cfs_model.specs.Knobs.{KnobsView}
use Rattle.cfs_model.specs.Limits.{most_processors}
use Rattle.cfs_model.specs.Run.{IsRun}
use Rattle.cfs_model.specs.Start.{start_machine}
use Rattle.cfs_model.specs.declared.act.Entry.{Entry}
use Rattle.sched_record.specs.Join.{IsFirstOutside}
use Rattle.sched_record.specs.Record.{RecordView}
use Rattle.sched_record.specs.Trace.{TraceAnswer}
use Rattle.replay_model.specs.declared.first_fault.FirstFault.{FirstFault}
use Rattle.ticket_book.specs.LeastAnswer.{IsLeastAnswer}
use Rattle.ticket_book.specs.SaidEvents.{events_of}
use Rattle.ticket_book.specs.Verdict.{IsVerdict}
use Rattle.ticket_book.specs.declared.least_settings.LeastSettings.TheVariants as leasts
use Rattle.ticket_book.specs.declared.verdict.Verdict.TheVariants as verdicts
use Rattle.audit_input.specs.Texts.{IsRecordOf, TellsCharges}
use Rattle.recording_audit.specs.declared.cut_cause.CutCause.{CutCause}
use Rattle.recording_audit.specs.declared.cut_cause.CutCause.TheVariants as causes
use Rattle.recording_audit.specs.declared.part.Stretch.{Stretch}
use Rattle.recording_audit.specs.declared.part.Told.{Told}
use Rattle.recording_audit.specs.declared.part.Told.TheVariants as told
use Rattle.recording_audit.specs.declared.span.Span.{Span}
use Rattle.recording_audit.specs.declared.judging.Judged.{Judged}
use Rattle.recording_audit.specs.declared.judging.Judged.TheVariants as judgements

-- these are the least settings at which a record is a run
abbrev pub IsLeastOf : RecordView → KnobsView → Type 0
IsLeastOf r least = IsLeastAnswer r (leasts.Found least)

-- this is wrong first in a text at all settings, by its companion
abbrev pub IsFaultOf : List ℕ → List ℕ → FirstFault → Type 0
IsFaultOf text companion fault =
    (r : RecordView) × IsRecordOf text companion r × IsLeastAnswer r (leasts.Fault fault)

-- a record is a run at the limits
abbrev pub IsWithin : RecordView → KnobsView → Type 0
IsWithin r limits = IsRun limits r.start (start_machine r.start r.floors r.tasks) (events_of r)

-- what is wrong first at the limits: the verdict's fault there, or none, and the record is a run there
abbrev pub IsOver : RecordView → KnobsView → Option FirstFault → Type 0
IsOver r limits None = IsWithin r limits
IsOver r limits (Some fault) = IsVerdict limits r (verdicts.Fault fault)

-- the times of the first of these events, and of the last
pub record AreTimesOf (events : List Entry) (begins ends : ℕ) : Type 0 where
  pub first : Entry
  pub after : List Entry
  pub head : events ≡ first ∷ after
  pub begin : begins ≡ first.time
  pub before : List Entry
  pub last : Entry
  pub back : events ≡ before ++ last ∷ []
  pub end : ends ≡ last.time

-- of a stretch with this text: the number of its events, when these were, the least settings at which it is a run by
-- its companion, and what is wrong with it at the limits
pub record IsStretch (limits : KnobsView) (text : List ℕ) (stretch : Stretch) : Type 0 where
  pub events : List Entry
  pub means : TraceAnswer text (Ok events)
  pub counted : stretch.events ≡ length events
  pub times : AreTimesOf events stretch.begins stretch.ends
  pub joined : RecordView
  pub is_record : IsRecordOf text stretch.companion.items joined
  pub least : IsLeastOf joined stretch.least
  pub tells : TellsCharges stretch.companion.items stretch.tells_charges
  pub over : IsOver joined limits stretch.over

-- the events of a text are so many, and were then
pub record IsSpanOf (text : List ℕ) (span : Span) : Type 0 where
  pub events : List Entry
  pub means : TraceAnswer text (Ok events)
  pub counted : span.events ≡ length events
  pub times : AreTimesOf events span.begins span.ends

-- what is told of a part with this text, by these limits
abbrev pub IsTold : KnobsView → List ℕ → Told → Type 0
IsTold limits text (told.Stretch stretch) = IsStretch limits text stretch
IsTold limits text (told.Cut cut) = ⊤
IsTold limits text told.Quiet = TraceAnswer text (Ok [])

-- a text's events are read, and that of this line is the first that touches a processor which no companion has
abbrev pub IsOutsideOf : List ℕ → ℕ → Type 0
IsOutsideOf text line =
    (events : List Entry) × TraceAnswer text (Ok events) × IsFirstOutside most_processors events line

-- what is known of a line at which a text was found to be no run: that it is refused there, or of a fault by which
-- companion it is one
abbrev pub IsBadFor : List ℕ → ℕ → CutCause → Type 0
IsBadFor text line (causes.Refused cause) = TraceAnswer text (Err (line, cause))
IsBadFor text line causes.BufferStarted = ⊤
IsBadFor text line (causes.Fault fault) = (companion : List ℕ) × IsFaultOf text companion fault × (fault.line ≡ line)
IsBadFor text line causes.CpuOutside = IsOutsideOf text line
IsBadFor text line causes.Short = ⊥
IsBadFor text line causes.Unsettled = ⊤

-- what a text came to; where an event fits no settings, the fault is that by a companion
abbrev pub IsJudgement : KnobsView → List ℕ → Judged → Type 0
IsJudgement limits text (judgements.Run stretch) = IsStretch limits text stretch
IsJudgement limits text judgements.Quiet = TraceAnswer text (Ok [])
IsJudgement limits text (judgements.Bad line why) = IsBadFor text line why

-- so many events are fewer than a stretch has to have, where that is the cause of a cut
abbrev pub IsTooFew : ℕ → ℕ → CutCause → Type 0
IsTooFew least events causes.Short = events < least
IsTooFew least events cause = ⊤

-- a stretch has at least so many events, and what was cut as too short has fewer
abbrev pub IsLongEnough : ℕ → Told → Type 0
IsLongEnough least (told.Stretch stretch) = least ≤ stretch.events
IsLongEnough least (told.Cut cut) = IsTooFew least cut.events cut.cause
IsLongEnough least told.Quiet = ⊤

-- its events haven't been compared with how many a stretch has to have
abbrev pub IsUnmeasured : Told → Type 0
IsUnmeasured (told.Stretch stretch) = ⊤
IsUnmeasured (told.Cut cut) = cut.cause ≢ causes.Short
IsUnmeasured told.Quiet = ⊤
