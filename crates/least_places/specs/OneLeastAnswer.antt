-- A record has one answer of its least settings and their places; and what a place says of the least settings of fronts
-- (this project's profile).
use Rattle.std.specs.Prelude.{◌≡◌, ℕ, ◌<◌, [], ◌∷◌, ◌++◌}
use Rattle.cfs_model.specs.Knobs.{KnobsView, value_at}
use Rattle.cfs_model.specs.Least.{AreLeast}
use Rattle.cfs_model.specs.Order.{IsStart}
use Rattle.cfs_model.specs.Start.{start_machine}
use Rattle.cfs_model.specs.declared.setting.Setting.{Setting}
use Rattle.least_places.specs.LeastAnswer.{IsLeastAnswer}
use Rattle.least_places.specs.Place.{IsNeededFirst}
use Rattle.least_places.specs.declared.figures.LeastFigures.{LeastFigures}
use Rattle.sched_record.specs.Record.{RecordView}
use Rattle.ticket_book.specs.SaidEvents.{events_of}

-- two answers of one record's least settings are the same
abbrev pub OneLeastAnswer : Type 0
OneLeastAnswer = (r : RecordView) (one other : LeastFigures) → IsStart r.floors r.tasks
    → IsLeastAnswer r one → IsLeastAnswer r other → one ≡ other

-- where one of a record's least settings is needed first, the least settings of the events before that line have less
-- of it, and those of the events up to the line have as much
abbrev pub FrontsNeedLess : Type 0
FrontsNeedLess = (r : RecordView) (knobs : KnobsView) (which : Setting) (line : ℕ)
    → AreLeast r.start (start_machine r.start r.floors r.tasks) (events_of r) knobs
    → (first : IsNeededFirst r which (value_at knobs which) line) → (front : KnobsView)
    → (AreLeast r.start (start_machine r.start r.floors r.tasks) first.before front
    → value_at front which < value_at knobs which)
    × (AreLeast r.start (start_machine r.start r.floors r.tasks) (first.before ++ first.event ∷ []) front
    → value_at front which ≡ value_at knobs which)
