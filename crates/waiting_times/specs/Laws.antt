-- One answer of the waits of a run (this project's profile).
use Rattle.std.specs.Prelude.{◌≡◌, List}
use Rattle.cfs_model.specs.Knobs.{KnobsView}
use Rattle.cfs_model.specs.Run.{IsRun}
use Rattle.sched_record.specs.RecordView.{RecordView}
use Rattle.waiting_times.specs.Waits.{AreWaits, first_state, said_events}
use Rattle.waiting_times.specs.declared.task_waits.TaskWaits.{TaskWaits}

-- what is told of a record's run is one thing, at whichever settings it is a run
abbrev pub OneWaiting : Type 0
OneWaiting = (r : RecordView) (one other : KnobsView) (told also : List TaskWaits)
    → (run : IsRun one r.start (first_state r) (said_events r))
    → (again : IsRun other r.start (first_state r) (said_events r))
    → AreWaits r run.states told → AreWaits r again.states also → told ≡ also
