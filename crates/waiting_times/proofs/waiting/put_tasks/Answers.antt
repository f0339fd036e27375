use Rattle.std.proofs.Common.{◌≡◌, map, take, ◌+◌, ap, sym, subst, ◌∙◌}
use Rattle.std.proofs.lemmas.List.{take_all}
use Rattle.cfs_model.specs.declared.task.Task.{Task}
use Rattle.waiting_times.specs.Rows.{at_start, changed, fresh, standing_row}
use Rattle.waiting_times.proofs.Changed.{one_more_put}
use Rattle.waiting_times.proofs.waiting.put_tasks.Goals as goal

pub loop-task-preserved : goal.loop-task-preserved
loop-task-preserved c =
    let tasks = c.args.tasks.now in
    let i = c.loop-task.task-index in
    let task = c.task-item.result in
    let pids = c.args.rows.now.table.pids in
    let inv = c.loop-task.invariant in
    let before = at_start c.args.start (take i tasks) fresh in
    record {
      pids = c.put.ensures.pids ∙ inv.pids;
      rows = λ fresh_rows.
          let now : c.loop-task.rows.table.rows ≡ map before c.loop-task.rows.table.pids =
          inv.rows fresh_rows ∙ ap (map before) (sym inv.pids) in
          c.put.ensures.rows before now
          ∙ ap (λ stand. map (changed task.pid (standing_row stand) before) c.loop-task.rows.table.pids) c.by.ensures
          ∙ one_more_put c.args.start tasks i task fresh c.loop-task.rows.table.pids c.loop-task-test.true
          c.task-item.is
          ∙ ap (map (at_start c.args.start (take (i + 1) tasks) fresh)) inv.pids;
      within = λ n all. c.put.ensures.within n (inv.within n all);
    }

pub returns-clause-rows : goal.returns-clause-rows
returns-clause-rows c = λ fresh_rows.
    c.loop-task.invariant.rows fresh_rows
    ∙ ap (λ tasks. map (at_start c.args.start tasks fresh) c.args.rows.now.table.pids)
    (take_all c.loop-task.task-index c.args.tasks.now c.loop-task-test.false)
