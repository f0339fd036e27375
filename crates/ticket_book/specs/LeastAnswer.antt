-- The least settings of a record: the second headline (this project's profile). What they are is said by cfs_model.
use Rattle.cfs_model.specs.Least.{AreLeast, IsFirstBadAtAll, greatest_settings}
use Rattle.cfs_model.specs.Knobs.{AreInRange}
use Rattle.cfs_model.specs.Start.{start_machine}
use Rattle.sched_record.specs.Record.{RecordView}
use Rattle.ticket_book.specs.SaidEvents.{events_of}
use Rattle.ticket_book.specs.Verdict.{IsFaulty}
use Rattle.ticket_book.specs.declared.least_settings.LeastSettings.{LeastSettings}
use Rattle.ticket_book.specs.declared.least_settings.LeastSettings.TheVariants.{Found, Fault}

-- of a record: the least settings at which its events are a run, which are in range; or the first line up to which they
-- are one at no settings in range, and what is wrong there at the greatest
abbrev pub IsLeastAnswer : RecordView → LeastSettings → Type 0
IsLeastAnswer r (Found knobs) =
    AreLeast r.start (start_machine r.start r.floors r.tasks) (events_of r) knobs × AreInRange knobs
IsLeastAnswer r (Fault fault) =
    IsFirstBadAtAll r.start (start_machine r.start r.floors r.tasks) (events_of r) fault.line
    × IsFaulty greatest_settings r fault
