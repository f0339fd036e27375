-- Who is left waiting by a pick: the least of those who wait behind a switch (this project's profile).
use Rattle.std.specs.Prelude.{◌≡◌, ℕ, ◌≤◌, Option, Some, None, ℤ, ◌<ℤ◌, ◌⊎◌, List, [], ◌∷◌, ◌++◌}
use Rattle.cfs_model.specs.Claimed.{Claimed}
use Rattle.cfs_model.specs.Knobs.{KnobsView}
use Rattle.cfs_model.specs.Machine.{Machine, NobodyStands, Stands}
use Rattle.cfs_model.specs.Run.{IsRun, last_of}
use Rattle.cfs_model.specs.Start.{start_machine}
use Rattle.cfs_model.specs.declared.act.Act.{Act}
use Rattle.cfs_model.specs.declared.act.Act.TheVariants.{Switch}
use Rattle.cfs_model.specs.declared.setting.Setting.{Setting}
use Rattle.cfs_model.specs.declared.setting.Setting.TheVariants.{Granularity}
use Rattle.cfs_model.specs.declared.task.Place.TheVariants.{Wait}
use Rattle.sched_record.specs.Record.{RecordView}
use Rattle.ticket_book.specs.SaidEvents.{events_of}

-- the least of those who wait at a processor: none of them has a lesser virtual runtime, and of equal ones it is the
-- one of the least pid
pub record IsLeastOf (m : Machine) (cpu pid : ℕ) : Type 0 where
  pub runtime : ℤ
  pub waits : Stands m Wait cpu pid
  pub has : m.runtime pid ≡ Some runtime
  pub least : (other : ℕ) (v : ℤ) → Stands m Wait cpu other → m.runtime other ≡ Some v
      → (runtime <ℤ v) ⊎ ((runtime ≡ v) × (pid ≤ other))

-- the same, where anybody waits there
abbrev pub IsLeastIfAny : Machine → ℕ → Option ℕ → Type 0
IsLeastIfAny m cpu None = NobodyStands m Wait cpu
IsLeastIfAny m cpu (Some pid) = IsLeastOf m cpu pid

-- whom an event leaves waiting, in the machine behind it: at a switch the least of those who wait at its processor
abbrev pub IsLeft : Machine → Act → Option ℕ → Type 0
IsLeft m (Switch cpu prev prev_nice way next next_nice) left = IsLeastIfAny m cpu left
IsLeft m _ left = left ≡ None

-- the front of a record up to the event on a line and including it, as far as it is a run at these settings
pub record IsFront (r : RecordView) (knobs : KnobsView) (line : ℕ) : Type 0 where
  pub before : List Claimed
  pub event : Claimed
  pub rest : List Claimed
  pub whole : events_of r ≡ before ++ event ∷ rest
  pub line_is : event.entry.line ≡ line
  pub run : IsRun knobs r.start (start_machine r.start r.floors r.tasks) (before ++ event ∷ [])

-- the machine that a front leads to
abbrev pub end_of : (r : RecordView) (knobs : KnobsView) (line : ℕ) → IsFront r knobs line → Machine
end_of r knobs line front = last_of (start_machine r.start r.floors r.tasks) front.run.states

-- whom the event on a line leaves waiting
abbrev pub IsLeftOnLine : RecordView → KnobsView → ℕ → Option ℕ → Type 0
IsLeftOnLine r knobs line left =
    (front : IsFront r knobs line) → IsLeft (end_of r knobs line front) front.event.entry.act left

-- the least of those who wait at a processor behind the event on a line
abbrev pub IsLeftBehind : RecordView → KnobsView → ℕ → ℕ → Option ℕ → Type 0
IsLeftBehind r knobs cpu line left =
    (front : IsFront r knobs line) → IsLeastIfAny (end_of r knobs line front) cpu left

-- whom the picked task was above, at the place of a granularity; other settings' places have nobody
abbrev pub IsOver : RecordView → KnobsView → Setting → ℕ → Option ℕ → Type 0
IsOver r knobs Granularity line over = IsLeftOnLine r knobs line over
IsOver r knobs _ line over = over ≡ None
