-- Pages on which a verdict can rest (this project's profile).
use Rattle.std.specs.Prelude.{◌≡◌, ℕ, ◌≤◌, ◌⊎◌, IsSome, Some, List, length, slice_get}
use Rattle.cfs_model.specs.Knobs.{KnobsView}
use Rattle.replay_laws.specs.Sufficing.{HasFaultBy}
use Rattle.replay_model.specs.Page.{IsPageOf}
use Rattle.queue_replay.specs.Replay.{ReplayView}
use Rattle.sched_record.specs.Record.{RecordView}
use Rattle.sched_record.specs.Stream.{cut_of}
use Rattle.ticket_book.specs.Told.{pages_of, view_at}

-- the page is of the record's stream for a processor, with these settings
pub record IsOwnPageOf (knobs : KnobsView) (r : RecordView) (cpu : ℕ) (page : ReplayView) : Type 0 where
  pub stream : page.stream ≡ cut_of r cpu
  pub knobs_are : page.knobs ≡ knobs

-- the page is of the record's stream for a processor, with these settings, and its replay went to its first fault or to
-- the end
pub record IsWholePageOf (knobs : KnobsView) (r : RecordView) (cpu : ℕ) (page : ReplayView) : Type 0 where
  pub stream : page.stream ≡ cut_of r cpu
  pub knobs_are : page.knobs ≡ knobs
  pub is_page : IsPageOf page.stream page.knobs page.made page.page
  pub whole : IsSome page.page.fault ⊎ (length (cut_of r cpu).steps ≤ page.made)

-- the page is of the record's stream for a processor, with these settings, and its replay went to its first fault, to
-- the end, or to the line of a fault on one of some pages or past it
pub record SufficesBeside (knobs : KnobsView) (r : RecordView) (pages : List ReplayView) (cpu : ℕ) (page : ReplayView)
    : Type 0 where
  pub stream : page.stream ≡ cut_of r cpu
  pub knobs_are : page.knobs ≡ knobs
  pub is_page : IsPageOf page.stream page.knobs page.made page.page
  pub enough : IsSome page.page.fault ⊎ (length (cut_of r cpu).steps ≤ page.made)
      ⊎ HasFaultBy (view_at (pages_of pages)) (length pages) page.page.line

-- one page for each processor of the record, in the order of their numbers, and each suffices beside the others
pub record AreSufficient (knobs : KnobsView) (r : RecordView) (pages : List ReplayView) : Type 0 where
  pub count : length pages ≡ r.cpus
  pub each : (cpu : ℕ) (page : ReplayView) → slice_get pages cpu ≡ Some page → SufficesBeside knobs r pages cpu page
