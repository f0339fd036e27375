-- Why lines stand in no stretch: what a cut's cause says of its lines (this project's profile).
use Rattle.std.specs.Prelude.{◌≡◌, ℕ, ◌+◌, ◌-◌, ⊤, ◌⊎◌, List, [], ◌∷◌, ◌++◌, length, take, drop, codes}
use Rattle.std.specs.Prelude.{Option, None, Some, Ok, Err}
use Rattle.cfs_model.specs.Knobs.{KnobsView}
use Rattle.ftrace_line.specs.Line.{LineAnswer, lost, sched}
use Rattle.ftrace_line.specs.declared.kinds.Which.{Which}
use Rattle.replay_model.specs.declared.first_fault.FirstFault.{FirstFault}
use Rattle.sched_event.specs.declared.fault.EventFault.TheVariants as events
use Rattle.sched_record.specs.Said.{RefusesEvent}
use Rattle.sched_record.specs.Trace.{TraceAnswer}
use Rattle.sched_record.specs.declared.cause.TraceCause.{TraceCause}
use Rattle.sched_record.specs.declared.cause.TraceCause.TheVariants as traces
use Rattle.text_parts.specs.Lines.{lines_of}
use Rattle.recording_audit.specs.Parts.{IsFaultOf, IsOutsideOf, IsStretch}
use Rattle.recording_audit.specs.Tasks.{IsNamed}
use Rattle.recording_audit.specs.declared.cut_cause.CutCause.{CutCause}
use Rattle.recording_audit.specs.declared.cut_cause.CutCause.TheVariants as causes
use Rattle.recording_audit.specs.declared.part.Part.{Part}
use Rattle.recording_audit.specs.declared.part.Stretch.{Stretch}
use Rattle.recording_audit.specs.declared.part.Told.{Told}
use Rattle.recording_audit.specs.declared.part.Told.TheVariants as told

-- the line by itself is refused for this cause: only a real-time or deadline task's event and lost events make a cut
abbrev pub IsPassed : List ℕ → TraceCause → Type 0
IsPassed line traces.TooManyLines = ⊥
IsPassed line (traces.Line fault) = ⊥
IsPassed line traces.LostEvents = LineAnswer line (Ok lost)
IsPassed line (traces.Event events.BadFields) = ⊥
IsPassed line (traces.Event events.NumberRange) = ⊥
IsPassed line (traces.Event events.RealTime) = RefusesEvent line events.RealTime
IsPassed line (traces.Event events.PrioRange) = ⊥
IsPassed line (traces.Event events.IdleNamed) = ⊥
IsPassed line traces.TimeBack = ⊥

-- so is the first of a text's lines
pub record IsPassedFirst (text : List ℕ) (cause : TraceCause) : Type 0 where
  pub line : List ℕ
  pub after : List (List ℕ)
  pub lines : lines_of text ≡ line ∷ after
  pub passed : IsPassed line cause

-- the line says that a processor's buffer begins there
pub record IsStart (line : List ℕ) : Type 0 where
  pub front : take 10 line ≡ codes "##### CPU "
  pub back : drop (length line - 20) line ≡ codes " buffer started ####"

-- the last of a text's lines says so
pub record EndsByStart (text : List ℕ) : Type 0 where
  pub before : List (List ℕ)
  pub line : List ℕ
  pub lines : lines_of text ≡ before ++ line ∷ []
  pub start : IsStart line

-- the line of this number in a text is the first that fits no settings: this is wrong first there at the greatest, by a
-- companion, in lines with which the text begins
pub record IsFoundFault (text : List ℕ) (line : ℕ) (fault : FirstFault) : Type 0 where
  pub tried : List ℕ
  pub more : List ℕ
  pub front : text ≡ tried ++ more
  pub companion : List ℕ
  pub found : IsFaultOf tried companion fault
  pub placed : fault.line ≡ line

-- the line of this number in a text is the first that is refused, for this cause, in lines with which the text begins
pub record IsFoundRefusal (text : List ℕ) (line : ℕ) (cause : TraceCause) : Type 0 where
  pub tried : List ℕ
  pub more : List ℕ
  pub front : text ≡ tried ++ more
  pub found : TraceAnswer tried (Err (line, cause))

-- the line of this number in a text is the first that touches a processor which no companion has, in such lines
pub record IsFoundOutside (text : List ℕ) (line : ℕ) : Type 0 where
  pub tried : List ℕ
  pub more : List ℕ
  pub front : text ≡ tried ++ more
  pub found : IsOutsideOf tried line

-- the first line of a cut is such a line of a stretch that was tried, which began with the part before the cut, or with
-- the cut itself
pub record IsCutAtFault (before text : List ℕ) (fault : FirstFault) : Type 0 where
  pub begin : List ℕ
  pub begins : (begin ≡ before) ⊎ (begin ≡ [])
  pub after : List ℕ
  pub found : IsFoundFault (begin ++ (text ++ after)) (length (lines_of begin) + 1) fault

-- of a cut with this text and so many events, behind a part with that text: its cause is so
abbrev pub IsCauseOf : KnobsView → List ℕ → List ℕ → ℕ → CutCause → Type 0
IsCauseOf limits before text events (causes.Refused cause) = IsPassedFirst text cause
IsCauseOf limits before text events causes.BufferStarted = EndsByStart text
IsCauseOf limits before text events (causes.Fault fault) = IsCutAtFault before text fault
IsCauseOf limits before text events causes.CpuOutside = ⊥
IsCauseOf limits before text events causes.Short =
    (stretch : Stretch) × IsStretch limits text stretch × (events ≡ stretch.events)
IsCauseOf limits before text events causes.Unsettled = ⊤

-- the line is one of the scheduler's four events
pub record IsEvent (line : List ℕ) : Type 0 where
  pub cpu : ℕ
  pub time : ℕ
  pub which : Which
  pub rest : List ℕ
  pub reads : LineAnswer line (Ok (sched cpu time which rest))

-- so many of these lines are
abbrev pub HaveEvents : List (List ℕ) → ℕ → Type 0
HaveEvents [] count = count ≡ 0
HaveEvents (line ∷ lines) count =
    (IsEvent line × ((fewer : ℕ) × (count ≡ fewer + 1) × HaveEvents lines fewer))
    ⊎ ((IsEvent line → ⊥) × HaveEvents lines count)

-- of a cut with this text: so many events stand there; those of a stretch that is too short are counted as its own
abbrev pub IsCounted : List ℕ → ℕ → CutCause → Type 0
IsCounted text events causes.Short = ⊤
IsCounted text events cause = HaveEvents (lines_of text) events

abbrev pub IsCaused : KnobsView → List ℕ → List ℕ → Told → Type 0
IsCaused limits before text (told.Stretch stretch) = ⊤
IsCaused limits before text (told.Cut cut) =
    IsCauseOf limits before text cut.events cut.cause × IsCounted text cut.events cut.cause
    × IsNamed text cut.cause cut.task
IsCaused limits before text told.Quiet = ⊤

-- the causes and counts of all cuts of these parts behind a part with this text
abbrev pub AreCaused : KnobsView → List ℕ → List Part → Type 0
AreCaused limits before [] = ⊤
AreCaused limits before (part ∷ parts) =
    IsCaused limits before part.text.now part.told × AreCaused limits part.text.now parts

-- what is known of the line of this number in a text, where it is known to stand in no stretch
abbrev pub IsKnown : List ℕ → ℕ → Option CutCause → Type 0
IsKnown text line None = ⊤
IsKnown text line (Some (causes.Refused cause)) = IsFoundRefusal text line cause
IsKnown text line (Some causes.BufferStarted) = ⊤
IsKnown text line (Some (causes.Fault fault)) = IsFoundFault text line fault
IsKnown text line (Some causes.CpuOutside) = IsFoundOutside text line
IsKnown text line (Some causes.Short) = ⊥
IsKnown text line (Some causes.Unsettled) = ⊤

-- the line of this number in a text can't be read on from: the reader refuses it for this cause, or it touches a
-- processor which no companion has
abbrev pub IsUnreadable : List ℕ → ℕ → CutCause → Type 0
IsUnreadable text line (causes.Refused cause) = IsFoundRefusal text line cause
IsUnreadable text line causes.CpuOutside = IsFoundOutside text line
IsUnreadable text line causes.BufferStarted = ⊥
IsUnreadable text line (causes.Fault fault) = ⊥
IsUnreadable text line causes.Short = ⊥
IsUnreadable text line causes.Unsettled = ⊥

-- the same, as it is read from the part before it on, which has that text, or from itself on
pub record IsRefusedFirst (before text : List ℕ) (cause : CutCause) : Type 0 where
  pub begin : List ℕ
  pub begins : (begin ≡ before) ⊎ (begin ≡ [])
  pub found : IsUnreadable (begin ++ text) (length (lines_of begin) + 1) cause
