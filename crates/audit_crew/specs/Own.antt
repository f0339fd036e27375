-- Which pages a reserved shelf takes, and a crew's (this project's profile).
use Rattle.std.specs.Prelude.{◌≡◌, []}
use Rattle.cfs_model.specs.Knobs.{KnobsView}
use Rattle.queue_replay.specs.Replay.{ReplayView}
use Rattle.replay_model.specs.Cut.{StreamView}
use Rattle.sched_record.specs.Record.{RecordView}
use Rattle.ticket_book.specs.Whole.{IsOwnPageOf}

-- each page of a stream by these settings is among those that are taken
abbrev pub AreTaken : (ReplayView → Type 0) → StreamView → KnobsView → Type 0
AreTaken takes stream knobs = (page : ReplayView) → page.stream ≡ stream → page.knobs ≡ knobs → takes page

-- a replay, or its page, is of the stream that the record deals to the processor, and by these settings
abbrev pub IsOwnReplay : KnobsView → RecordView → ReplayView → Type 0
IsOwnReplay knobs r replay = IsOwnPageOf knobs r replay.stream.cpu replay

-- what a name that is no crew's ledger has in their place; `crew` picks its own
abbrev pub no_record : RecordView
no_record = record {
  cpus = 0;
  start = 0;
  floors = [];
  tasks = [];
  events = [];
  claims = [];
  nices = [];
  charges =
      [];
  idles = [];
}

abbrev pub no_knobs : KnobsView
no_knobs = record { granularity = 0; credit = 0; debit = 0; slack = 0; drift = 0 }
