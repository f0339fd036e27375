-- Where a figure of the least settings is needed: the event at which, its processor and its task (this project's
-- profile).
use Rattle.std.specs.Prelude.{◌≡◌, ℕ, ◌<◌, ◌≤◌, ◌==◌, ◌-◌, if◌then◌else◌, Option, Some, None, List, [], ◌∷◌, ◌++◌}
use Rattle.cfs_model.specs.Claimed.{Claimed}
use Rattle.cfs_model.specs.Knobs.{KnobsView, value_at, with_value}
use Rattle.cfs_model.specs.Run.{IsRun}
use Rattle.cfs_model.specs.Start.{start_machine}
use Rattle.cfs_model.specs.declared.act.Entry.{Entry}
use Rattle.cfs_model.specs.declared.kind.Kind.{Kind}
use Rattle.cfs_model.specs.declared.setting.Setting.{Setting}
use Rattle.cfs_model.specs.declared.setting.Setting.TheVariants.{Granularity, Credit, Debit, Slack, Drift}
use Rattle.least_places.specs.Left.{IsOver}
use Rattle.least_places.specs.declared.place.Place.{Place}
use Rattle.least_places.specs.declared.places.Places.{Places}
use Rattle.replay_model.specs.Cause.{IsFirstFault}
use Rattle.sched_record.specs.Record.{RecordView}
use Rattle.ticket_book.specs.SaidEvents.{events_of}

-- the line of the first event at which so much of a setting is needed: the events before it are a run with less of it,
-- and those up to it and including it are one with no less
pub record IsNeededFirst (r : RecordView) (which : Setting) (value line : ℕ) : Type 0 where
  pub before : List Claimed
  pub event : Claimed
  pub rest : List Claimed
  pub whole : events_of r ≡ before ++ event ∷ rest
  pub line_is : event.entry.line ≡ line
  pub less : (knobs : KnobsView) × (value_at knobs which < value)
      × IsRun knobs r.start (start_machine r.start r.floors r.tasks) before
  pub needs : (knobs : KnobsView) → IsRun knobs r.start (start_machine r.start r.floors r.tasks) (before ++ event ∷ [])
      → value ≤ value_at knobs which

-- these settings, but for a nanosecond less of one
abbrev pub one_less : KnobsView → Setting → KnobsView
one_less knobs which = with_value knobs which (value_at knobs which - 1)

-- the time of the first event on this line; 0 where there is none
abbrev pub time_on_line : List Entry → ℕ → ℕ
time_on_line [] line = 0
time_on_line (entry ∷ entries) line = if entry.line == line then entry.time else time_on_line entries line

-- the place of a setting's figure among least settings: where it is needed first, and when; the processor and the task
-- with which something is wrong there by a nanosecond less of it; and whom a picked task was above
pub record IsPlace (r : RecordView) (knobs : KnobsView) (which : Setting) (place : Place) : Type 0 where
  pub needed : IsNeededFirst r which (value_at knobs which) place.line
  pub time : place.time ≡ time_on_line r.events place.line
  pub kind : Kind
  pub fault : IsFirstFault (one_less knobs which) r.start (start_machine r.start r.floors r.tasks) (events_of r)
      place.line (record { cpu = place.cpu; pid = place.pid; kind = kind })
  pub over : IsOver r knobs which place.line place.over

-- a figure of 0 has no place, and each other has one
abbrev pub IsPlaced : RecordView → KnobsView → Setting → Option Place → Type 0
IsPlaced r knobs which None = value_at knobs which ≡ 0
IsPlaced r knobs which (Some place) = IsPlace r knobs which place

-- the place of a setting's figure
abbrev pub place_at : Places → Setting → Option Place
place_at places Granularity = places.granularity
place_at places Credit = places.credit
place_at places Debit = places.debit
place_at places Slack = places.slack
place_at places Drift = places.drift

-- each figure has its place
abbrev pub ArePlaces : RecordView → KnobsView → Places → Type 0
ArePlaces r knobs places = (which : Setting) → IsPlaced r knobs which (place_at places which)
