-- Whether a page got far enough to be relied on, beside the least line of a fault (this project's profile).
use Rattle.std.specs.Prelude.{ℕ, ◌≤◌, ⊤, Bool, IsTrue, Option, Some, None, List, length}
use Rattle.cfs_model.specs.Knobs.{KnobsView}
use Rattle.queue_replay.specs.Made.{reached_of}
use Rattle.queue_replay.specs.Replay.{ReplayView}
use Rattle.queue_replay.specs.declared.tag.Reached.{Reached}
use Rattle.queue_replay.specs.declared.tag.Reached.TheVariants.{Stopped, Done, Faulted}
use Rattle.sched_record.specs.Record.{RecordView}
use Rattle.ticket_book.specs.Remade.{IsLeastFaultBelow, NoFaultBelow}

-- the least line of a fault on the record's own pages of the processors below a number, if one of them has a fault
abbrev pub IsLeastFaultLine : KnobsView → RecordView → List (Option ReplayView) → ℕ → Option ℕ → Type 0
IsLeastFaultLine knobs r slots cpus None = NoFaultBelow knobs r slots cpus
IsLeastFaultLine knobs r slots cpus (Some line) = IsLeastFaultBelow knobs r slots cpus line

-- a replay got far enough beside a least line, if there is one
abbrev pub IsEnough : Option ℕ → Reached → Type 0
IsEnough least Done = ⊤
IsEnough least (Faulted line) = ⊤
IsEnough None (Stopped line) = ⊥
IsEnough (Some least) (Stopped line) = least ≤ line

-- there is a page at a slot, it is told to be the record's own, and it got far enough beside a least line
abbrev pub IsReliable : Bool → Option ℕ → Option ReplayView → Type 0
IsReliable own least None = ⊥
IsReliable own least (Some page) =
    IsTrue own × IsEnough least (reached_of page.page page.made (length page.stream.steps))
