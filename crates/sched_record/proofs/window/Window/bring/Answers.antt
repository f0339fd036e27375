use Rattle.std.proofs.Common.{◌++◌, take, ap, ◌∙◌}
use Rattle.sched_record.specs.Window.{said_beside}
use Rattle.sched_record.proofs.Windows.{said_in_front, same_said}
use Rattle.sched_record.proofs.window.Window.bring.Goals as goal

pub returns-in_err-extend_from_slice-clause-same : goal.returns-in_err-extend_from_slice-clause-same
returns-in_err-extend_from_slice-clause-same c =
    let self = c.args.self.now in
    ap (λ es. said_beside es self.sayings)
    (c.in_err-extend_from_slice.ensures.items ∙ c.truncate.ensures.items
    ∙ ap (λ n. take n self.events.items) c.len.ensures)
    ∙ same_said self.events.items self.sayings

pub returns-clause-same : goal.returns-clause-same
returns-clause-same c =
    let self = c.args.self.now in
    ap (λ es. said_beside es self.sayings)
    (c.in_ok-extend_from_slice.ensures.items
    ∙ ap (λ es. es ++ c.args.events.now)
    (c.truncate.ensures.items ∙ ap (λ n. take n self.events.items) c.len.ensures))
    ∙ said_in_front self.events.items c.args.events.now self.sayings self.paired
