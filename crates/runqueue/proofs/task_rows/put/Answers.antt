use Rattle.std.proofs.Common.{Some, length, subst, sym, ap, ◌∙◌}
use Rattle.pid_table.specs.Rows.{index_in}
use Rattle.runqueue.specs.TaskRows.{KeepsRows, with_pid_at}
use Rattle.pid_table.proofs.Changes.{index_new}
use Rattle.runqueue.proofs.TaskRows.{keeps_more, keeps_same, row_added}
use Rattle.runqueue.proofs.task_rows.put.Goals as goal

pub returns-in-Some-clause-kept : goal.returns-in-Some-clause-kept
returns-in-Some-clause-kept c = keeps_same c.args.tasks.now.pids c.write_row.new.tasks.pids c.write_row.ensures.pids

pub returns-in-Some-clause-pids : goal.returns-in-Some-clause-pids
returns-in-Some-clause-pids c =
    let t = c.args.tasks.now in
    c.write_row.ensures.pids
    ∙ ap (λ o. with_pid_at o c.args.pid t.pids) (sym c.in-Some.is ∙ c.index_of.ensures.index)

pub returns-in-None-clause-pids : goal.returns-in-None-clause-pids
returns-in-None-clause-pids c =
    let t = c.args.tasks.now in
    c.add.ensures.pids ∙ ap (λ o. with_pid_at o c.args.pid t.pids) (sym c.in-None.is ∙ c.index_of.ensures.index)

pub returns-in-None-clause-written : goal.returns-in-None-clause-written
returns-in-None-clause-written c =
    row_added c.args.tasks.now c.add.new.self c.index_of.ensures.sound c.args.pid (Some c.args.task.now)
    (sym c.index_of.ensures.index ∙ c.in-None.is) c.add.ensures.pids c.add.ensures.rows

pub returns-in-None-clause-row : goal.returns-in-None-clause-row
returns-in-None-clause-row c =
    let t = c.args.tasks.now in
    ap (λ l. index_in l c.args.pid) c.add.ensures.pids
    ∙ index_new t.pids c.args.pid (sym c.index_of.ensures.index ∙ c.in-None.is)
    ∙ ap Some (sym c.index_of.ensures.sound.one_each ∙ ap length (sym c.rows-row.ensures.rows))

pub returns-in-None-clause-kept : goal.returns-in-None-clause-kept
returns-in-None-clause-kept c =
    let t = c.args.tasks.now in
    subst (KeepsRows t.pids) (sym c.add.ensures.pids) (keeps_more t.pids c.args.pid)
