-- The waits beside what is told of a record.
use Rattle.std.proofs.Common.{◌≡◌, Option, Some, None, IsSome, IsSomeAnd, List, refl}
use Rattle.cfs_model.specs.Knobs.{KnobsView}
use Rattle.cfs_model.specs.Run.{IsRun}
use Rattle.replay_model.specs.declared.first_fault.FirstFault.{FirstFault}
use Rattle.sched_record.specs.Record.{RecordView}
use Rattle.audit_report.specs.Beside.{AreWaitsBeside}
use Rattle.waiting_times.specs.Waits.{AreWaits, first_state, said_events}
use Rattle.waiting_times.specs.declared.task_waits.TaskWaits.{TaskWaits}

pub waits_are_beside : (r : RecordView) (fault : Option FirstFault) (waits : Option (List TaskWaits))
    → (IsSome fault → waits ≡ None)
    → (fault ≡ None → (knobs : KnobsView) (run : IsRun knobs r.start (first_state r) (said_events r))
    → IsSomeAnd waits (AreWaits r run.states))
    → (fault ≡ None → (at : KnobsView) × IsRun at r.start (first_state r) (said_events r))
    → AreWaitsBeside r fault waits
waits_are_beside r (Some fault) None none some runs = tt
waits_are_beside r (Some fault) (Some waits) none some runs = let e = none refl in cc
waits_are_beside r None None none some runs = let run = runs refl in some refl run.0 run.1
waits_are_beside r None (Some waits) none some runs = let run = runs refl in (run.0, run.1, some refl run.0 run.1)
