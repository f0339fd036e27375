use Rattle.std.proofs.Common.{sym, ◌∙◌}
use Rattle.runqueue.proofs.TaskRows.{has_row}
use Rattle.runqueue.proofs.task_rows.write_over.Goals as goal

pub unreachable-requires : goal.unreachable-requires
unreachable-requires c =
    has_row c.args.tasks.now c.args.pid c.requires (sym c.index_near.ensures.index ∙ c.in-None.is)
