-- A whole record, as an audit in windows sees it (this project's profile).
use Rattle.cfs_model.specs.Knobs.{KnobsView}
use Rattle.sched_record.specs.Record.{RecordView}
use Rattle.window_audit.specs.Audit.{Beginning}

-- what a record is before its events
abbrev pub beginning_of : KnobsView → RecordView → Beginning
beginning_of knobs r = record { knobs = knobs; start = r.start; floors = r.floors; tasks = r.tasks; cpus = r.cpus }
