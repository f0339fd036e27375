use Rattle.std.proofs.Common.{ap, get_or, sym, ◌∙◌}
use Rattle.std.proofs.lemmas.Option.{slice_get-get_or}
use Rattle.runqueue.specs.TaskRows.{task_of_row}
use Rattle.pid_table.proofs.Changes.{row_within}
use Rattle.runqueue.proofs.TaskRows.{at_row, without_row}
use Rattle.runqueue.proofs.task_rows.listed_newcomer.Goals as goal

pub returns : goal.returns
returns c =
    let t = c.args.tasks.now in
    let row = c.in-Some.row in
    let at = sym c.index_of.ensures.index ∙ c.in-Some.is in
    c.index-rows-row.is ∙ ap (λ l. get_or l row c.index-rows-row.result) c.rows.ensures.rows
    ∙ sym (at_row t c.args.pid row at
    ∙ ap task_of_row (slice_get-get_or t.rows row c.index-rows-row.result
    (row_within t c.index_of.ensures.sound c.args.pid row at)))

pub returns-in_default : goal.returns-in_default
returns-in_default c =
    sym (without_row c.args.tasks.now c.args.pid (sym c.index_of.ensures.index ∙ c.in_default.is))
