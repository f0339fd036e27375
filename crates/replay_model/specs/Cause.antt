-- Why the events up to and including one are no run, though those before it are: the first of five things that can be
-- wrong with it, in this order (this project's profile). Each is said of the machine just before the event.
use Rattle.std.specs.Prelude.{◌≡◌, ◌≢◌, ℕ, ◌<◌, ◌⊎◌, ℤ, List, [], ◌∷◌, ◌++◌, ◌+◌, length, slice_index}
use Rattle.cfs_model.specs.Knobs.{KnobsView}
use Rattle.cfs_model.specs.Machine.{Machine, Stands}
use Rattle.cfs_model.specs.Claimed.{Claimed}
use Rattle.cfs_model.specs.Run.{times_of, IsRun, last_of}
use Rattle.cfs_model.specs.Idling.{IdlesFrom}
use Rattle.replay_model.specs.Part.{Part, part_of}
use Rattle.replay_model.specs.Found.{IsFound}
use Rattle.replay_model.specs.Deeds.{left_ticket, came_ticket}
use Rattle.replay_model.specs.Tests.{NoneHolds, FirstHolds, PassesTests, charge_tests, late_tests}
use Rattle.replay_model.specs.StepAt.{step_at}
use Rattle.cfs_model.specs.declared.act.Act.{Act}
use Rattle.cfs_model.specs.declared.act.Act.TheVariants.{Switch, Wake, Born, Shift}
use Rattle.cfs_model.specs.declared.kind.Kind.{Kind}
use Rattle.cfs_model.specs.declared.kind.Kind.TheVariants.{IdleTooLong, TicketUnequal, BornTwice}
use Rattle.cfs_model.specs.declared.task.Place.{Place}
use Rattle.replay_model.specs.declared.step.Step.{Step}

-- what is wrong, at which processor, and with which task; pid 0 where it is no task's
pub record FaultCause : Type 0 where
  pub cpu : ℕ
  pub pid : ℕ
  pub kind : Kind

-- with one more event, at this time, a processor will have idled for longer than the slack: from some state on it
-- has idled in each
pub record SlackFails (slack : ℕ) (times : List ℕ) (states : List Machine) (cpu time : ℕ) : Type 0 where
  pub from : ℕ
  pub is_state : from < length states
  pub idles : IdlesFrom states cpu from (length states)
  pub late : slice_index times from + slack < time

-- the first test of a step that fails on a part: those of the charge, then those on the part as the deed finds it
abbrev pub FailsOn : KnobsView → ℕ → Part → Step → Kind → ℕ → Type 0
FailsOn knobs cpu part step kind pid =
    FirstHolds (charge_tests knobs part step) kind pid
    ⊎ (NoneHolds (charge_tests knobs part step)
    × ((found : Part) × IsFound step part found × FirstHolds (late_tests knobs cpu found step) kind pid))

-- the first of the event's tests that fails at a processor of the machine is this cause
pub record FailsAt (knobs : KnobsView) (m : Machine) (cpu : ℕ) (event : Claimed) (cause : FaultCause) : Type 0 where
  pub here : cause.cpu ≡ cpu
  pub fails : FailsOn knobs cpu (part_of m cpu) (step_at cpu event) cause.kind cause.pid

-- the event's tests pass at a processor of the machine, and found is the part as the event finds it there
abbrev pub PassesAt : KnobsView → Machine → ℕ → Claimed → Part → Type 0
PassesAt knobs m cpu event found = PassesTests knobs cpu (part_of m cpu) (step_at cpu event) found

-- the tests of a migration pass at its origin, and the first that fails at its destination is this cause
pub record FailsAtArrival (knobs : KnobsView) (m : Machine) (orig dest : ℕ) (event : Claimed) (cause : FaultCause)
    : Type 0 where
  pub left : Part
  pub leaves : PassesAt knobs m orig event left
  pub fails : FailsAt knobs m dest event cause

-- the tests of a migration pass at both ends, and the task's place or its virtual runtime less the floor differ there
pub record IsUnequal (knobs : KnobsView) (m : Machine) (orig dest pid : ℕ) (nice : ℤ) (event : Claimed)
    (cause : FaultCause) : Type 0 where
  pub left : Part
  pub came : Part
  pub leaves : PassesAt knobs m orig event left
  pub arrives : PassesAt knobs m dest event came
  pub differ : left_ticket left event.entry.line pid ≢ came_ticket came event.entry.line pid nice event.policy
      event.claim
  pub is : cause ≡ record { cpu = dest; pid = pid; kind = TicketUnequal }

-- the tests of a birth pass at its processor, and the pid stands at another
pub record IsBornTwice (knobs : KnobsView) (m : Machine) (cpu pid : ℕ) (event : Claimed) (cause : FaultCause)
    : Type 0 where
  pub found : Part
  pub passes : PassesAt knobs m cpu event found
  pub place : Place
  pub other : ℕ
  pub elsewhere : other ≢ cpu
  pub stands : Stands m place other pid
  pub is : cause ≡ record { cpu = cpu; pid = pid; kind = BornTwice }

-- what is wrong with what the event does: a test that fails where it does it, of a migration first at its origin;
-- then tickets that differ, or a birth of a pid that stands elsewhere
abbrev pub IsActCause : KnobsView → Machine → Claimed → Act → FaultCause → Type 0
IsActCause knobs m event (Switch cpu prev prev_nice way next next_nice) cause = FailsAt knobs m cpu event cause
IsActCause knobs m event (Wake cpu pid nice) cause = FailsAt knobs m cpu event cause
IsActCause knobs m event (Born cpu pid nice) cause =
    FailsAt knobs m cpu event cause ⊎ IsBornTwice knobs m cpu pid event cause
IsActCause knobs m event (Shift orig dest pid nice) cause =
    FailsAt knobs m orig event cause
    ⊎ FailsAtArrival knobs m orig dest event cause
    ⊎ IsUnequal knobs m orig dest pid nice event cause

-- with one more event, at this time, the slack fails at the cause's processor, and at no lower one
pub record IsIdlingCause (slack : ℕ) (times : List ℕ) (states : List Machine) (time : ℕ) (cause : FaultCause)
    : Type 0 where
  pub idles : SlackFails slack times states cause.cpu time
  pub lowest : (other : ℕ) → other < cause.cpu → ¬ SlackFails slack times states other time
  pub pid : cause.pid ≡ 0
  pub kind : cause.kind ≡ IdleTooLong

-- the first thing that is wrong with an event behind a run: a processor that idles for too long; else what the event
-- does
pub record IsCause (knobs : KnobsView) (start : ℕ) (first : Machine) (before : List Claimed) (event : Claimed)
    (cause : FaultCause) : Type 0 where
  pub run : IsRun knobs start first before
  pub why : IsIdlingCause knobs.slack (times_of start before) (first ∷ run.states) event.entry.time cause
      ⊎ (((cpu : ℕ) → ¬ SlackFails knobs.slack (times_of start before) (first ∷ run.states) cpu event.entry.time)
      × IsActCause knobs (last_of first run.states) event event.entry.act cause)

-- the first event up to which the events are no run is on this line, and this is what is wrong with it
pub record IsFirstFault (knobs : KnobsView) (start : ℕ) (first : Machine) (events : List Claimed) (line : ℕ)
    (cause : FaultCause) : Type 0 where
  pub before : List Claimed
  pub event : Claimed
  pub rest : List Claimed
  pub whole : events ≡ before ++ event ∷ rest
  pub line_is : event.entry.line ≡ line
  pub why : IsCause knobs start first before event cause
  pub ends : ¬ IsRun knobs start first (before ++ event ∷ [])
