-- Which of a book's pages a verdict rests on, and how many have to be made again for it (this project's profile).
use Rattle.std.specs.Prelude.{◌≡◌, ℕ, zero, suc, ◌<◌, ◌≤◌, ◌⊎◌, ⊤, Option, Some, None, List, length}
use Rattle.cfs_model.specs.Knobs.{KnobsView}
use Rattle.replay_model.specs.declared.page.StepFault.{StepFault}
use Rattle.queue_replay.specs.Made.{reached_of}
use Rattle.queue_replay.specs.Replay.{ReplayView}
use Rattle.queue_replay.specs.declared.tag.Reached.{Reached}
use Rattle.queue_replay.specs.declared.tag.Reached.TheVariants.{Stopped, Done, Faulted}
use Rattle.sched_record.specs.Record.{RecordView}
use Rattle.ticket_book.specs.Book.{page_at}
use Rattle.ticket_book.specs.Whole.{IsOwnPageOf}

-- at a processor's slot stands a page of the record's stream for the processor, with these settings, and with a fault
-- at this line
pub record HasFaultAt (knobs : KnobsView) (r : RecordView) (cpu : ℕ) (slot : Option ReplayView)
    (line : ℕ) : Type 0 where
  pub page : ReplayView
  pub stands : slot ≡ Some page
  pub own : IsOwnPageOf knobs r cpu page
  pub fault : StepFault
  pub is_fault : page.page.fault ≡ Some fault
  pub at_line : fault.line ≡ line

-- of the processors below a number none has a page with such a fault
abbrev pub NoFaultBelow : KnobsView → RecordView → List (Option ReplayView) → ℕ → Type 0
NoFaultBelow knobs r slots cpus =
    (cpu line : ℕ) → cpu < cpus → ¬ HasFaultAt knobs r cpu (page_at slots cpu) line

-- of the processors below a number one has a page with such a fault at this line, and none at a lesser one
pub record IsLeastFaultBelow (knobs : KnobsView) (r : RecordView) (slots : List (Option ReplayView)) (cpus line : ℕ)
    : Type 0 where
  pub cpu : ℕ
  pub within : cpu < cpus
  pub there : HasFaultAt knobs r cpu (page_at slots cpu) line
  pub least : (other lesser : ℕ) → other < cpus → HasFaultAt knobs r other (page_at slots other) lesser → line ≤ lesser

-- the least line of a fault on those of a book's pages that have the record's streams and these settings
abbrev pub IsLeastFault : KnobsView → RecordView → List (Option ReplayView) → ℕ → Type 0
IsLeastFault knobs r slots line = IsLeastFaultBelow knobs r slots r.cpus line

-- how far a page's replay got is enough: it is done, or faulted, or stopped at a line not before that least line
abbrev pub ReachesEnough : KnobsView → RecordView → List (Option ReplayView) → Reached → Type 0
ReachesEnough knobs r slots Done = ⊤
ReachesEnough knobs r slots (Faulted line) = ⊤
ReachesEnough knobs r slots (Stopped line) = (least : ℕ) × IsLeastFault knobs r slots least × (least ≤ line)

-- a page suffices for a processor of the record: it is of the record's stream for the processor, with these settings,
-- and it got far enough
pub record SufficesFor (knobs : KnobsView) (r : RecordView) (slots : List (Option ReplayView)) (cpu : ℕ)
    (page : ReplayView) : Type 0 where
  pub own : IsOwnPageOf knobs r cpu page
  pub enough : ReachesEnough knobs r slots (reached_of page.page page.made (length page.stream.steps))

-- there is a page at a processor's slot, and it suffices
abbrev pub Suffices : KnobsView → RecordView → List (Option ReplayView) → ℕ → Option ReplayView → Type 0
Suffices knobs r slots cpu None = ⊥
Suffices knobs r slots cpu (Some page) = SufficesFor knobs r slots cpu page

-- so many of the processors below a number have no page that suffices
abbrev pub AreRemadeBelow : KnobsView → RecordView → List (Option ReplayView) → ℕ → ℕ → Type 0
AreRemadeBelow knobs r slots zero count = count ≡ 0
AreRemadeBelow knobs r slots (suc cpu) count =
    (Suffices knobs r slots cpu (page_at slots cpu) × AreRemadeBelow knobs r slots cpu count)
    ⊎ ((¬ Suffices knobs r slots cpu (page_at slots cpu))
    × ((fewer : ℕ) × (count ≡ suc fewer) × AreRemadeBelow knobs r slots cpu fewer))

-- so many of the record's processors have no page that suffices
abbrev pub AreRemade : KnobsView → RecordView → List (Option ReplayView) → ℕ → Type 0
AreRemade knobs r slots count = AreRemadeBelow knobs r slots r.cpus count
