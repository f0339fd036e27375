-- The waits beside what is told of a record (this project's format).
use Rattle.std.specs.Prelude.{Option, Some, None, List, ⊤}
use Rattle.cfs_model.specs.Knobs.{KnobsView}
use Rattle.cfs_model.specs.Run.{IsRun}
use Rattle.replay_model.specs.declared.first_fault.FirstFault.{FirstFault}
use Rattle.sched_record.specs.Record.{RecordView}
use Rattle.waiting_times.specs.Waits.{AreWaits, first_state, said_events}
use Rattle.waiting_times.specs.declared.task_waits.TaskWaits.{TaskWaits}

-- beside a fault nothing is told of waits; beside a run, the waits of its tasks in its states
abbrev pub AreWaitsBeside : RecordView → Option FirstFault → Option (List TaskWaits) → Type 0
AreWaitsBeside r (Some fault) None = ⊤
AreWaitsBeside r (Some fault) (Some waits) = ⊥
AreWaitsBeside r None None = ⊥
AreWaitsBeside r None (Some waits) =
    (knobs : KnobsView) × (run : IsRun knobs r.start (first_state r) (said_events r)) × AreWaits r run.states waits
