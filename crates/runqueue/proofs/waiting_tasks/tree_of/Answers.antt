use Rattle.std.proofs.Common.{◌∙◌, ap, sym, take}
use Rattle.std.proofs.lemmas.List.{take_more}
use Rattle.runqueue.proofs.WaitingLists.{has, one_more}
use Rattle.runqueue.proofs.waiting_tasks.tree_of.Goals as goal

pub loop-task-preserved : goal.loop-task-preserved
loop-task-preserved c q =
    one_more c.loop-task.tree c.insert.new.self _ (take c.loop-task.task-index c.args.list.now)
    c.in_ok-insert.ensures.updates c.loop-task.invariant q
    ∙ ap (has q) (sym (take_more c.args.list.now c.loop-task.task-index _ c.loop-task-test.true))
