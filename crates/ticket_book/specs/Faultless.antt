-- The pages behind a record's least settings: at the greatest settings nothing failed (this project's profile).
use Rattle.std.specs.Prelude.{◌≡◌, ℕ, ◌≤◌, ⊤, Some, None, Option, List, length, slice_get}
use Rattle.cfs_model.specs.Knobs.{KnobsView}
use Rattle.cfs_model.specs.Least.{greatest_settings}
use Rattle.cfs_model.specs.Run.{IsRun}
use Rattle.cfs_model.specs.Start.{start_machine}
use Rattle.queue_replay.specs.Replay.{ReplayView}
use Rattle.replay_model.specs.declared.first_fault.FirstFault.{FirstFault}
use Rattle.sched_record.specs.Record.{RecordView}
use Rattle.sched_record.specs.Stream.{cut_of}
use Rattle.ticket_book.specs.SaidEvents.{events_of}
use Rattle.ticket_book.specs.Verdict.{IsFaulty}
use Rattle.ticket_book.specs.Whole.{IsOwnPageOf}
use Rattle.ticket_book.specs.declared.least_settings.LeastSettings.{LeastSettings}
use Rattle.ticket_book.specs.declared.least_settings.LeastSettings.TheVariants.{Found, Fault}

-- the page is of the record's stream for a processor, at the greatest settings, by all its steps, of which none failed
pub record IsFaultlessPageOf (r : RecordView) (cpu : ℕ) (page : ReplayView) : Type 0 where
  pub own : IsOwnPageOf greatest_settings r cpu page
  pub none : page.page.fault ≡ None
  pub all : length (cut_of r cpu).steps ≤ page.made

-- one such page for each processor of the record, in the order of their numbers
pub record AreFaultless (r : RecordView) (pages : List ReplayView) : Type 0 where
  pub count : length pages ≡ r.cpus
  pub each : (cpu : ℕ) (page : ReplayView) → slice_get pages cpu ≡ Some page → IsFaultlessPageOf r cpu page

-- where there are least settings, these pages told them
abbrev pub AreBehind : RecordView → LeastSettings → List ReplayView → Type 0
AreBehind r (Found knobs) pages = AreFaultless r pages
AreBehind r (Fault fault) pages = ⊤

-- what is wrong first with a record by some settings; nothing where it is a run
abbrev pub IsFaultOf : KnobsView → RecordView → Option FirstFault → Type 0
IsFaultOf knobs r None = IsRun knobs r.start (start_machine r.start r.floors r.tasks) (events_of r)
IsFaultOf knobs r (Some fault) = IsFaulty knobs r fault
