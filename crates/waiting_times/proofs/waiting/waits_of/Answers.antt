use Rattle.std.proofs.Common.{◌∷◌, subst, sym}
use Rattle.replay_model.specs.Summary.{tasks_of_run}
use Rattle.sched_record.specs.Record.{record_view}
use Rattle.waiting_times.specs.Waits.{AreWaits, first_state, said_events}
use Rattle.waiting_times.proofs.Told.{each_told, told_waits}
use Rattle.waiting_times.proofs.waiting.waits_of.Goals as goal

pub returns : goal.returns
returns c = λ knobs run.
    let r = record_view c.args.joined.now in
    subst (AreWaits r run.states) (sym c.in_ok-told_by.ensures)
    (each_told r (first_state r ∷ run.states) (told_waits r c.args.joined.now.in_order knobs run)
    (tasks_of_run r.tasks (said_events r)))
