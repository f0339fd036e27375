use Rattle.std.proofs.Common.{sym, ◌∙◌}
use Rattle.text_parts.specs.Lines.{lines_of}
use Rattle.stream_audit.proofs.Going.{begins, start_told}
use Rattle.stream_audit.proofs.course.Course.begin.Goals as goal

pub returns-in_ok-joined-clause-stays : goal.returns-in_ok-joined-clause-stays
returns-in_ok-joined-clause-stays c = λ gave left said events handed so past.
    let course = c.args.self.now in
    let reader = course.companion.reader in
    begins course.aim gave left course said events handed c.in-Some.start c.in_ok-joined.joined so past
    (sym c.is_some.ensures ∙ c.if-is_some.false)
    (start_told reader.bad said _ c.in-Some.start c.in-Some.is
    (c.in_ok-start.ensures (lines_of so.stands.done) said so.edge so.stands.read))
    c.in_ok-joined.ensures.joined
