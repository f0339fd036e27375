use Rattle.std.proofs.Common.{◌∙◌, ap, refl, sym}
use Rattle.replay_model.specs.declared.step.Deed.{Deed}
use Rattle.replay_model.specs.declared.step.Deed.TheVariants.{Leave}
use Rattle.runqueue.specs.Queue.{runqueue_view}
use Rattle.queue_replay.specs.Rows.{leave_tests, pids_after}
use Rattle.queue_replay.proofs.Rows.{leave_row, passes}
use Rattle.queue_replay.proofs.deeds.try_leave.Goals as goal

pub remove-requires : goal.remove-requires
remove-requires c i =
    let part = runqueue_view c.args.queue.now in
    (c.in_default.ensures.first part c.task_at-task.ensures).1.1.0 c.args.pid (i, refl)

pub returns-clause-tried : goal.returns-clause-tried
returns-clause-tried c knobs =
    let part = runqueue_view c.args.queue.now in
    let step = c.args.step.now in
    let deed = Leave c.args.pid c.args.nice c.args.dest in
    passes knobs c.args.cpu part step deed step.claim (leave_tests c.args.cpu part deed)
    (leave_row knobs c.args.cpu part c.args.pid c.args.nice c.args.dest step.claim) c.requires refl _ _
    (c.in_default.ensures.first part c.task_at-task.ensures) c.remove.ensures.part c.left_ticket-ticket.ensures refl

pub returns-clause-pids : goal.returns-clause-pids
returns-clause-pids c =
    c.remove.ensures.pids ∙ ap (λ (d : Deed). pids_after d c.args.queue.now.tasks.pids) (sym c.requires)
