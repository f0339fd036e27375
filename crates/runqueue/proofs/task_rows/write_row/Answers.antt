use Rattle.std.proofs.Common.{refl}
use Rattle.pid_table.specs.Rows.{with_row}
use Rattle.runqueue.proofs.TaskRows.{row_written}
use Rattle.runqueue.proofs.task_rows.write_row.Goals as goal

pub returns-clause-written : goal.returns-clause-written
returns-clause-written c =
    let t = c.args.tasks.now in
    row_written t (with_row t c.args.row c.args.task) c.pids-pids.ensures.sound c.args.row c.args.task refl refl
