use Rattle.std.proofs.Common.{◌≡◌, [], ◌++◌, subst}
use Rattle.std.specs.Prelude.{IsSome, MatchOption}
use Rattle.sched_record.specs.Window.{window_view}
use Rattle.stream_audit.specs.Judge.{IsAwaiting, begun}
use Rattle.stream_audit.proofs.Calm.{at_some}
use Rattle.stream_audit.proofs.Handing.{course_after, judged_after}
use Rattle.stream_audit.proofs.course.Course.hand_on.Goals as goal

pub returns-in-Some-judge-clause-went : goal.returns-in-Some-judge-clause-went
returns-in-Some-judge-clause-went g c = λ gave left said events handed so judged.
    let course = c.args.self.now in
    let joined = c.in-Some.joined in
    let old = c.in-Some-judge.judge in
    let new = c.take.new.joined in
    let e = c.take.ensures in
    let awaiting = IsAwaiting (begun course.aim joined.start) handed in (
      handed ++ window_view joined.window,
      course_after course.aim gave left course said events handed joined new so c.in-Some.is e.start e.joining
          e.emptied,
      judged_after course.aim gave left course said events handed joined new so c.in-Some.is e.start e.joining
          e.emptied c.together.ensures old c.take.new.self e.progress e.taken
          (at_some (Unit {0}) (λ j. window_view j.window ≡ []) _ old c.in-Some-judge.is
          (c.in_ok-begin_judging.ensures.idle c.requires))
          (λ calm. at_some ⊥ awaiting _ old c.in-Some-judge.is
          (c.in_ok-begin_judging.ensures.awaiting handed
          (at_some _ (λ from. MatchOption c.args.judge.now (handed ≡ [])
          (λ j. IsAwaiting (begun course.aim from.start) handed j)) course.joined joined c.in-Some.is
          (judged calm)))),
    )

pub returns-in_default-judge-clause-handed_on : goal.returns-in_default-judge-clause-handed_on
returns-in_default-judge-clause-handed_on g c =
    absurd (let e = subst IsSome c.in_default-judge.is c.in_ok-begin_judging.ensures.some in cc)
