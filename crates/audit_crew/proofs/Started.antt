-- A record names a start in order.
use Rattle.cfs_model.specs.Order.{IsStart}
use Rattle.replay_model.proofs.StartFrom.{start_from}
use Rattle.sched_record.specs.Record.{IsRecordInOrder, RecordView}

pub start_of : (r : RecordView) → IsRecordInOrder r → IsStart r.floors r.tasks
start_of r o =
    start_from r.floors r.tasks o.companion.pids_rise o.companion.one_runs_a_cpu
    (λ k d h. (o.companion.tasks_in_limits k d h).v) o.companion.floors_in_limits
