use Rattle.std.proofs.Common.{refl}
use Rattle.stream_audit.specs.Companion.{SaysOn}
use Rattle.stream_audit.specs.Course.{CourseGoesOn, IsCalm}
use Rattle.stream_audit.proofs.Calm.{calm_from, same_refusal}
use Rattle.stream_audit.proofs.Going.{goes_with, on_ok}
use Rattle.stream_audit.proofs.course.Course.read_rest.Goals as goal

pub returns-clause-went : goal.returns-clause-went
returns-clause-went g c = λ gave said events handed so.
    let course = c.args.self.now in
    let input = c.read_rest.new.self in
    let later = record course { companion = input } in
    let left = g.C.Feed.left c.read_rest.new.feed in
    on_ok (SaysOn gave left course.companion input said so.edge)
    (CourseGoesOn course.aim gave left later events handed × (IsCalm later → IsCalm course))
    c.read_rest.result (λ on. (
      (
        on.after,
        goes_with course.aim gave (g.C.Feed.left c.args.companion.now) left course later said events handed so refl
            refl on,
      ),
      calm_from course later on.good (same_refusal course.joined course.joined refl),
    )) (c.read_rest.ensures.read gave said so.edge so.stands)
