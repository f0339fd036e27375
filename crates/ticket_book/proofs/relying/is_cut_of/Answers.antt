use Rattle.std.proofs.Common.{rules}
use Rattle.std.proofs.lemmas.Bool.Decides.{Decides-at}
use Rattle.sched_record.specs.Record.{record_view}
use Rattle.sched_record.specs.Stream.{stream_view}
use Rattle.ticket_book.proofs.Framed.{cut_decides}
use Rattle.ticket_book.proofs.relying.is_cut_of.Goals as goal

pub returns-then-same_tasks : goal.returns-then-same_tasks
returns-then-same_tasks c =
    Decides-at _ _ (search rules)
    (cut_decides (record_view c.args.joined.now) c.args.cpu
    (stream_view c.args.stream.now) c.steps.result.now c.tasks.result.now c.tasks-2.result.now
    c.args.cursor c.is_at_end-same_steps.result c.are_tasks_at-same_tasks.result c.is_framed-same_frame.result
    c.steps.ensures c.tasks.ensures
    c.tasks-2.ensures c.requires.followed c.is_at_end-same_steps.ensures c.are_tasks_at-same_tasks.ensures
    c.is_framed-same_frame.ensures)

pub returns-else-same_tasks : goal.returns-else-same_tasks
returns-else-same_tasks c =
    Decides-at _ _ (search rules)
    (cut_decides (record_view c.args.joined.now) c.args.cpu
    (stream_view c.args.stream.now) c.steps.result.now c.tasks.result.now c.tasks-2.result.now
    c.args.cursor c.is_at_end-same_steps.result c.are_tasks_at-same_tasks.result c.is_framed-same_frame.result
    c.steps.ensures c.tasks.ensures
    c.tasks-2.ensures c.requires.followed c.is_at_end-same_steps.ensures c.are_tasks_at-same_tasks.ensures
    c.is_framed-same_frame.ensures)
