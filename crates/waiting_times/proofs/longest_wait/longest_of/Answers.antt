use Rattle.std.proofs.Common.{ap, ◌∙◌}
use Rattle.std.proofs.lemmas.List.{take_all}
use Rattle.waiting_times.specs.Longest.{longest_of}
use Rattle.waiting_times.proofs.AllLongest.{longest_more}
use Rattle.waiting_times.proofs.longest_wait.longest_of.Goals as goal

pub loop-task-preserved : goal.loop-task-preserved
loop-task-preserved c =
    longest_more c.args.tasks.now c.loop-task.task-index
    _ c.loop-task.longest c.with_task-longest.result
    c.loop-task-test.true c.loop-task.invariant c.with_task-longest.ensures

pub returns : goal.returns
returns c =
    c.loop-task.invariant ∙ ap longest_of (take_all c.loop-task.task-index c.args.tasks.now c.loop-task-test.false)
