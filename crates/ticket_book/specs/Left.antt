-- A book that is among those which auditors leave (this project's profile).
use Rattle.std.specs.Prelude.{◌≡◌, ℕ, ◌<◌, Option, Some, List, length}
use Rattle.cfs_model.specs.Knobs.{KnobsView}
use Rattle.queue_replay.specs.Replay.{ReplayView}
use Rattle.sched_record.specs.Record.{RecordView}
use Rattle.ticket_book.specs.Book.{page_at}
use Rattle.ticket_book.specs.Core.{AreLeft}
use Rattle.ticket_book.specs.Whole.{IsWholePageOf}

-- each of the record's processors has its whole page at its slot, and there is no other slot
pub record AreWhole (knobs : KnobsView) (r : RecordView) (slots : List (Option ReplayView)) : Type 0 where
  pub one_each : length slots ≡ r.cpus
  pub whole : (cpu : ℕ) → cpu < r.cpus
      → (page : ReplayView) × (page_at slots cpu ≡ Some page) × IsWholePageOf knobs r cpu page

-- such pages, in whatever order they came there, are what auditors leave
abbrev pub WholePagesAreLeft : Type 0
WholePagesAreLeft = (knobs : KnobsView) (r : RecordView) (slots : List (Option ReplayView))
    → AreWhole knobs r slots → AreLeft knobs r slots
