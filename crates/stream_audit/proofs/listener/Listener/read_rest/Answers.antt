use Rattle.std.proofs.Common.{◌≡◌, [], Option, sym, subst}
use Rattle.std.specs.Prelude.{MatchOption}
use Rattle.sched_record.specs.Window.{window_view}
use Rattle.stream_audit.specs.Course.{CourseGoesOn, IsCalm}
use Rattle.stream_audit.specs.Hearing.{IsHeard}
use Rattle.stream_audit.specs.declared.joined_events.JoinedEvents.{JoinedEvents}
use Rattle.stream_audit.proofs.Calm.{judged_stays, same_start}
use Rattle.stream_audit.proofs.Going.{on_ok}
use Rattle.stream_audit.proofs.Heard.{course_there}
use Rattle.stream_audit.proofs.UnderWay.{heard_further}
use Rattle.stream_audit.proofs.listener.Listener.read_rest.Goals as goal

pub judge-requires-after_bounds : goal.judge-requires-after_bounds
judge-requires-after_bounds g c κs within =
    let p = c.requires.pending in
    let heard = c.in_ok-join_last.ensures.heard p.0 p.1 p.2 p.3 p.4 p.5 in (heard.handed, heard.judged)

pub returns-clause-heard : goal.returns-clause-heard
returns-clause-heard g c = λ aim gave bytes handed pending judged.
    let intake = c.join_last.new.self.intake in
    let heard = c.in_ok-join_last.ensures.heard aim gave bytes handed pending judged in
    let course = intake.course in
    let later = c.read_rest.new.self in
    let judge = c.judge.new.judge in
    let e = c.read_rest.ensures in
    let left = g.C.Feed.left c.read_rest.new.companion in
    on_ok (CourseGoesOn course.aim gave left later heard.by.events heard.handed × (IsCalm later → IsCalm course))
    (IsHeard aim gave left bytes intake.reader later judge) c.read_rest.result
    (λ further. record {
      handed = heard.handed;
      by = heard_further aim gave _ left bytes intake.reader course later heard.handed heard.by further.0;
      judged = judged_stays course later heard.handed judge e.aim further.1
          (same_start course.joined later.joined e.joined) (c.in_ok-judge.ensures.judged heard.handed heard.judged);
      handed_on = subst (λ (o : Option JoinedEvents). MatchOption o (Unit {0}) (λ j. window_view j.window ≡ []))
          (sym e.joined) heard.handed_on;
    })
    (e.went gave heard.by.said heard.by.events heard.handed
    (course_there aim gave _ bytes intake.reader course heard.handed heard.by))
