-- When nothing is wrong with a record at limits.
use Rattle.std.proofs.Common.{◌≤◌, None}
use Rattle.std.specs.List.{AllByRecursion}
use Rattle.cfs_model.specs.Knobs.{KnobsView, all_settings, value_at}
use Rattle.cfs_model.specs.Laws.{RunFromLeast}
use Rattle.cfs_model.specs.Least.{AtMost}
use Rattle.cfs_model.specs.Start.{start_machine}
use Rattle.cfs_model.specs.declared.setting.Setting.TheVariants.{Granularity, Credit, Debit, Slack, Drift}
use Rattle.sched_record.specs.Record.{RecordView}
use Rattle.ticket_book.specs.SaidEvents.{events_of}
use Rattle.recording_audit.specs.Parts.{IsLeastOf, IsOver}

-- where each of all settings is within, all are
at_most_all : (less more : KnobsView) → AllByRecursion (λ which. value_at less which ≤ value_at more which) all_settings
    → AtMost less more
at_most_all less more all Granularity = all.0
at_most_all less more all Credit = all.1.0
at_most_all less more all Debit = all.1.1.0
at_most_all less more all Slack = all.1.1.1.0
at_most_all less more all Drift = all.1.1.1.1.0

-- at limits that are at least the least settings nothing is wrong
pub over_within : RunFromLeast → (r : RecordView) (least limits : KnobsView) → IsLeastOf r least
    → AllByRecursion (λ which. value_at least which ≤ value_at limits which) all_settings → IsOver r limits None
over_within exact r least limits found within =
    (exact r.start (start_machine r.start r.floors r.tasks) (events_of r) least limits found.0).1
    (at_most_all least limits within)
