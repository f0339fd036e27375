-- What is known of a recording whose texts both are read a block at a time (this project's profile).
use Rattle.std.specs.Prelude.{◌≡◌, ◌⊎◌, ℕ, ◌^◌, ◌<◌, ◌≤◌, false, List, [], ◌++◌, All, Option, IsNone, MatchOption}
use Rattle.std.specs.Prelude.{Ok, Err, IfOk, Result, drop, length, take}
use Rattle.audit_input.specs.declared.fault.Fault.{Fault}
use Rattle.cfs_model.specs.Claimed.{Claimed}
use Rattle.stream_audit.specs.Aim.{AimView}
use Rattle.cfs_model.specs.Limits.{greatest_line}
use Rattle.cfs_model.specs.declared.act.Entry.{Entry}
use Rattle.companion_file.specs.Companion.{CompanionAnswer, CompanionView}
use Rattle.companion_file.specs.Earlier.{Said}
use Rattle.companion_file.specs.Reader.{AreCountable, HasNoStart, HasReadCompanion, IsStartOf, with_all_said}
use Rattle.companion_file.specs.declared.fault.CompanionFault.TheVariants as faults
use Rattle.sched_record.specs.Kept.{AreInOrder}
use Rattle.sched_record.specs.Window.{window_view}
use Rattle.text_parts.specs.Lines.{lines_of}
use Rattle.stream_audit.specs.Aim.{Begun}
use Rattle.window_joining.specs.Joining.{edge_of, is_refused}
use Rattle.stream_audit.specs.Companion.{GoesPast, IsCompanionAt, IsPast}
use Rattle.stream_audit.specs.Joined.{AreJoinedSoFar, IsEndOf}
use Rattle.stream_audit.specs.Judge.{IsAwaiting, begun}
use Rattle.stream_audit.specs.Progress.{IsKnownOf}
use Rattle.stream_audit.specs.declared.companion_input.CompanionInput.{CompanionInput}
use Rattle.stream_audit.specs.declared.course.Course.{Course}
use Rattle.stream_audit.specs.declared.course.Closing.{Closing}
use Rattle.stream_audit.specs.declared.course.Closing.TheVariants.{Refused, Joined}
use Rattle.stream_audit.specs.declared.joined_events.JoinedEvents.{JoinedEvents}
use Rattle.stream_audit.specs.declared.judge.Judge.{Judge}

-- these events come next in a trace
pub record AreEventsNext (before events : List Entry) : Type 0 where
  pub in_order : AreInOrder (before ++ events)
  pub few : All (λ event. event.line ≤ greatest_line) (before ++ events)

-- nothing was joined: there was no event, or the companion was read to its end and has no start
abbrev pub IsNotBegun : Course → Said → List Entry → List Claimed → Type 0
IsNotBegun course said events handed =
    (handed ≡ []) × ((events ≡ []) ⊎ ((course.companion.goes_on ≡ false) × HasNoStart said))

-- these events were joined with what the companion said so far, and nothing more can be said of their lines; these of
-- what was joined were handed on
pub record IsAmidJoining (course : Course) (said : Said) (events : List Entry) (handed : List Claimed)
    (joined : JoinedEvents) : Type 0
  where
    pub start : CompanionView
    pub starts : IsStartOf said start
    pub so_far : AreJoinedSoFar (with_all_said start said) events handed joined
    pub past : GoesPast (edge_of events) said course.companion
    pub trace : AreEventsNext [] events

-- of a companion that gave bytes before it had these left this was said so far, and where none of its lines is bad, the
-- trace's events so far were joined with it, and these handed on
pub record IsCourseOf (aim : AimView) (gave left : Option (List ℕ)) (course : Course) (said : Said)
    (events : List Entry) (handed : List Claimed) : Type 0
  where
    pub settings : course.aim ≡ aim
    pub edge : ℕ
    pub passed : edge ≤ edge_of events
    pub stands : IsCompanionAt gave left course.companion said edge
    pub audited : IsNone course.companion.reader.bad
        → MatchOption course.joined (IsNotBegun course said events handed)
        (λ joined. IsAmidJoining course said events handed joined)

-- the same, where more was said
abbrev pub CourseGoesOn : AimView → Option (List ℕ) → Option (List ℕ) → Course → List Entry → List Claimed → Type 0
CourseGoesOn aim gave left course events handed = (said : Said) × IsCourseOf aim gave left course said events handed

-- nothing was found so far for which a text is refused
abbrev pub IsCalm : Course → Type 0
IsCalm course = IsNone course.companion.reader.bad
    × MatchOption course.joined (Unit {0}) (λ joined. is_refused joined.joining ≡ false)

-- this is known of the events that were handed on and their judge, as their record begins; there are none, and no
-- judge, before the first event
abbrev pub IsSettledBy : (Begun → List Claimed → Judge → Type 0) → AimView → Option JoinedEvents → List Claimed
    → Option Judge → Type 0
IsSettledBy P aim joined handed judge =
    MatchOption joined ((handed ≡ []) × IsNone judge)
    (λ from. MatchOption judge (handed ≡ []) (λ j. P (begun aim from.start) handed j))

-- where nothing was found for which a text is refused, it is known what was handed on, but for the window that waits
abbrev pub AreJudged : Course → List Claimed → Option Judge → Type 0
AreJudged course handed judge = IsCalm course → IsSettledBy IsAwaiting course.aim course.joined handed judge

-- the same with that window
abbrev pub WereJudged : Course → List Claimed → Option Judge → Type 0
WereJudged course handed judge =
    IsCalm course
    → IsSettledBy (λ of handed j. IsKnownOf of handed j.progress) course.aim course.joined handed judge

-- all that was joined was handed on
abbrev pub IsHandedOn : Course → Type 0
IsHandedOn course = MatchOption course.joined (Unit {0}) (λ joined. window_view joined.window ≡ [])

-- no window waits
abbrev pub IsIdle : Option Judge → Type 0
IsIdle judge = MatchOption judge (Unit {0}) (λ j. window_view j.window ≡ [])

-- what began goes on from its start
abbrev pub StartStays : Option JoinedEvents → Option JoinedEvents → Type 0
StartStays old new = MatchOption old (Unit {0}) (λ a. MatchOption new ⊥ (λ b. b.start ≡ a.start))

-- a companion was read to its end, and this is its text
abbrev pub IsDone : CompanionInput → List ℕ → Type 0
IsDone input text = (input.goes_on ≡ false) × ((said : Said) × (edge : ℕ)
    × HasReadCompanion input.reader (lines_of text) said edge × AreCountable (lines_of text))

-- these events come next, and nothing more can be said of their lines; it may be none
pub record IsReadyFor (aim : AimView) (gave left : Option (List ℕ)) (course : Course) (before : List Entry)
    (handed : List Claimed) (events : List Entry) : Type 0
  where
    pub said : Said
    pub so_far : IsCourseOf aim gave left course said before handed
    pub next : 0 < length events → AreEventsNext before events
    pub past : 0 < length events → IsPast (edge_of (before ++ events)) said course.companion

-- a course reads its companion past these events, where they come next, and is ready for those behind the first, of
-- which so many are joined
pub record JoinsNext (left rest : Option (List ℕ)) (old new : Course) (events : List Entry) (result : Result ℕ Fault)
    : Type 0
  where
    pub went : (gave : Option (List ℕ)) (said : Said) (before : List Entry) (handed : List Claimed)
        → IsCourseOf old.aim gave left old said before handed → (0 < length events → AreEventsNext before events)
        → IfOk result (λ count. IsReadyFor old.aim gave rest new (before ++ take count events) handed
        (drop count events) × (IsCalm new → IsCalm old))

-- these are all events of a trace
pub record AreAllEvents (events : List Entry) : Type 0 where
  pub in_order : AreInOrder events
  pub few : All (λ event. event.line ≤ greatest_line) events
  pub last : ℕ
  pub times : All (λ event. event.time ≤ last) events
  pub last_fits : last < 2 ^ 64

-- all events of a trace were joined with a companion that was read to its end, and this is its text; all were handed
-- on, and none waits to be judged
pub record IsWholeCourse (aim : AimView) (course : Course) (text : List ℕ) (events : List Entry)
    (judge : Option Judge) : Type 0
  where
    pub gave : Option (List ℕ)
    pub left : Option (List ℕ)
    pub said : Said
    pub handed : List Claimed
    pub so_far : IsCourseOf aim gave left course said events handed
    pub judged : AreJudged course handed judge
    pub handed_on : IsHandedOn course
    pub idle : IsIdle judge
    pub is_text : so_far.stands.done ≡ text
    pub ended : course.companion.goes_on ≡ false
    pub all : AreAllEvents events

-- the companion is refused, or it means this, and what it comes to with these events is told
abbrev pub IsClosingOf : AimView → List ℕ → List Entry → Closing → Type 0
IsClosingOf aim text events (Refused (faults.Text line cause)) = CompanionAnswer text (Err (line, cause))
IsClosingOf aim text events (Refused faults.Memory) = ⊥
IsClosingOf aim text events (Joined ending) =
    (c : CompanionView) × CompanionAnswer text (Ok c) × IsEndOf aim c events ending
