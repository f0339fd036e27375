use Rattle.std.proofs.Common.{◌≡◌, false, true, Ok, is_some, ap, sym, ◌∙◌}
use Rattle.recording_audit.proofs.NotNamed.{bad_apart, comment_apart, lost_apart, none_named, other_apart, refused_as}
use Rattle.recording_audit.proofs.cut_task.task_of.Goals as goal

-- the line reads as an event, whose text isn't refused for a real-time task
pub returns-in-None : goal.returns-in-None
returns-in-None c = λ limits before count is.
    none_named limits before c.args.text.now count c.args.cause c.next_line.result.0.now _ _
    (c.next_line.ensures.lines c.requires) c.read_line.ensures.answers c.one_reading.ensures is
    (λ cpu time which rest same has.
    let some = c.real_time_task.ensures.refused (refused_as c.read_line.result c.in-Ok-Sched.sched
    (c.in-Ok-Sched.is ∙ ap Ok (c.in-Ok-Sched.field-0-is)) cpu time which rest same has) in
    let none : false ≡ true = sym (ap is_some c.in-None.is) ∙ some in
    absurd cc)

pub returns-in-Ok-Comment : goal.returns-in-Ok-Comment
returns-in-Ok-Comment c = λ limits before count is.
    none_named limits before c.args.text.now count c.args.cause c.next_line.result.0.now _ _
    (c.next_line.ensures.lines c.requires) c.read_line.ensures.answers c.one_reading.ensures is
    (λ cpu time which rest same has. comment_apart c.read_line.result
    (c.in-Ok-Comment.is ∙ ap Ok c.in-Ok-Comment.field-0-is) cpu time which
    rest same)

pub returns-in-Ok-Lost : goal.returns-in-Ok-Lost
returns-in-Ok-Lost c = λ limits before count is.
    none_named limits before c.args.text.now count c.args.cause c.next_line.result.0.now _ _
    (c.next_line.ensures.lines c.requires) c.read_line.ensures.answers c.one_reading.ensures is
    (λ cpu time which rest same has. lost_apart c.read_line.result
    (c.in-Ok-Lost.is ∙ ap Ok c.in-Ok-Lost.field-0-is) cpu time which
    rest same)

pub returns-in-Ok-Other : goal.returns-in-Ok-Other
returns-in-Ok-Other c = λ limits before count is.
    none_named limits before c.args.text.now count c.args.cause c.next_line.result.0.now _ _
    (c.next_line.ensures.lines c.requires) c.read_line.ensures.answers c.one_reading.ensures is
    (λ cpu time which rest same has. other_apart c.read_line.result
    (c.in-Ok-Other.is ∙ ap Ok c.in-Ok-Other.field-0-is) cpu time which
    rest same)

pub returns-in-Err : goal.returns-in-Err
returns-in-Err c = λ limits before count is.
    none_named limits before c.args.text.now count c.args.cause c.next_line.result.0.now _ _
    (c.next_line.ensures.lines c.requires) c.read_line.ensures.answers c.one_reading.ensures is
    (λ cpu time which rest same has. bad_apart c.read_line.result _ c.in-Err.is cpu time which rest same)
