use Rattle.std.proofs.Common.{map, ap, ◌∙◌}
use Rattle.std.proofs.lemmas.List.{take_all}
use Rattle.cfs_model.specs.declared.task.Task.{Task}
use Rattle.waiting_times.specs.Naming.{with_pids}
use Rattle.waiting_times.proofs.Named.{one_more_named}
use Rattle.waiting_times.proofs.waiting.name_tasks.Goals as goal

pub loop-task-preserved : goal.loop-task-preserved
loop-task-preserved c = record {
  pids = one_more_named (λ (task : Task). task.pid) c.args.tasks.now c.loop-task.task-index c.task-item.result
      c.args.rows.now.table.pids c.loop-task.rows.table.pids c.name.new.self.table.pids c.loop-task-test.true
      c.task-item.is c.loop-task.invariant.pids c.in_ok-name.ensures.pids;
  rows = λ fresh_rows. c.in_ok-name.ensures.rows (c.loop-task.invariant.rows fresh_rows);
}

pub returns-clause-pids : goal.returns-clause-pids
returns-clause-pids c =
    c.loop-task.invariant.pids
    ∙ ap (λ tasks. with_pids (map (λ (task : Task). task.pid) tasks) c.args.rows.now.table.pids)
    (take_all c.loop-task.task-index c.args.tasks.now c.loop-task-test.false)
