use Rattle.std.proofs.Common.{◌≡◌, ℕ, map, sym, ap, ◌∙◌}
use Rattle.cfs_model.specs.declared.task.Task.{Task}
use Rattle.sched_record.specs.Record.{record_view}
use Rattle.waiting_times.specs.Moments.{edge}
use Rattle.waiting_times.specs.Naming.{births_in, with_pids}
use Rattle.waiting_times.specs.Rows.{along, at_start, fresh, told_along, told_of}
use Rattle.waiting_times.proofs.Named.{tasks_named}
use Rattle.waiting_times.proofs.Whole.{fresh_within, told_is}
use Rattle.waiting_times.proofs.waiting.told_by.Goals as goal

pub pass_events-requires : goal.pass_events-requires
pass_events-requires c =
    let none = c.new-rows.ensures.rows ∙ sym (ap (map (λ _. fresh)) c.new-rows.ensures.pids) in
    c.put_tasks.ensures.within 0
    (fresh_within c.name_born.new.rows.table.pids c.name_born.new.rows.table.rows
    (c.in_ok-name_born.ensures.rows (c.in_ok-name_tasks.ensures.rows none)))

pub returns : goal.returns
returns c =
    let r = record_view c.args.joined.now in
    let none = c.new-rows.ensures.rows ∙ sym (ap (map (λ _. fresh)) c.new-rows.ensures.pids) in
    let named = c.in_ok-name_born.ensures.rows (c.in_ok-name_tasks.ensures.rows none) in
    let start = c.edge.result in
    let end = c.edge-2.result in
    let tasks = c.tasks-2.result.now in
    let events = c.events-2.result.now in
    let first = at_start start tasks fresh in
    let last = λ (pid : ℕ). along pid events (first pid) in
    let put = c.put_tasks.ensures.rows named ∙ ap (map first) (sym c.put_tasks.ensures.pids) in
    let passed = c.pass_events.ensures.rows first put ∙ ap (map last) (sym c.pass_events.ensures.pids) in
    let pids = c.pass_events.ensures.pids ∙ c.put_tasks.ensures.pids
    ∙ tasks_named r c.new-rows.result.table.pids c.name_tasks.new.rows.table.pids c.name_born.new.rows.table.pids
    c.new-rows.ensures.pids
    (c.in_ok-name_tasks.ensures.pids
    ∙ ap (λ ts. with_pids (map (λ (task : Task). task.pid) ts) c.new-rows.result.table.pids) c.tasks.ensures)
    (c.in_ok-name_born.ensures.pids
    ∙ ap (λ es. with_pids (births_in es) c.name_tasks.new.rows.table.pids) c.events.ensures) in
    c.in_ok-tell.ensures last passed
    ∙ ap (map (λ pid. told_of end pid (last pid))) pids
    ∙ told_is r start end tasks events (c.edge.ensures ∙ ap edge c.start.ensures)
    (c.edge-2.ensures ∙ ap edge c.last_time.ensures) c.tasks-2.ensures c.events-2.ensures _
