use Rattle.std.proofs.Common.{map, ap, ◌∙◌}
use Rattle.std.proofs.lemmas.List.{take_all}
use Rattle.cfs_model.specs.declared.task.Task.{Task}
use Rattle.ticket_book.specs.Naming.{with_named}
use Rattle.ticket_book.proofs.Naming.{one_more_named}
use Rattle.ticket_book.proofs.run_sums.name_tasks.Goals as goal

pub loop-task-preserved : goal.loop-task-preserved
loop-task-preserved c =
    one_more_named (λ (task : Task). task.pid) c.args.tasks.now c.loop-task.task-index c.task-item.result
    c.args.sums.now.table.rows
    c.loop-task.sums.table.rows c.name.new.self.table.rows c.loop-task-test.true c.task-item.is c.loop-task.invariant
    c.in_ok-name.ensures.named

pub returns : goal.returns
returns c =
    c.loop-task.invariant
    ∙ ap (λ tasks. with_named (map (λ (task : Task). task.pid) tasks) c.args.sums.now.table.rows)
    (take_all c.loop-task.task-index c.args.tasks.now c.loop-task-test.false)
