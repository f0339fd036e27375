use Rattle.std.proofs.Common.{◌++◌, List, sym, subst}
use Rattle.cfs_model.specs.Claimed.{Claimed}
use Rattle.stream_audit.specs.Aim.{AimView}
use Rattle.stream_audit.specs.Companion.{IsFedBy, IsPast}
use Rattle.stream_audit.specs.Course.{AreJudged, IsCourseOf}
use Rattle.stream_audit.specs.declared.companion_input.CompanionInput.{CompanionInput}
use Rattle.stream_audit.proofs.Calm.{judged_stays}
use Rattle.stream_audit.proofs.Going.{on_ok}
use Rattle.stream_audit.proofs.UnderWay.{on_any}
use Rattle.stream_audit.proofs.course.Course.go_further.Goals as goal

pub returns-clause-went : goal.returns-clause-went
returns-clause-went g c = λ gave left said before handed so next past judged.
    let first = c.args.self.now in
    let mid = c.go_on.new.self in
    let later = c.hand_on.new.self in
    let events = before ++ c.args.events.now in
    let e = c.in_ok-go_on.ensures in
    let went = e.went gave left said before handed so next past in
    let known = judged_stays first mid handed c.judge.new.judge e.aim went.1 e.starts
    (c.in_ok-judge.ensures.judged handed judged) in
    on_ok ((x : List Claimed) × IsCourseOf mid.aim gave left later said events x
    × AreJudged later x c.hand_on.new.judge)
    ((x : List Claimed) × IsCourseOf first.aim gave left later said events x
    × AreJudged later x c.hand_on.new.judge) c.hand_on.result
    (λ on. (on.0, subst (λ (k : AimView). IsCourseOf k gave left later said events on.0) e.aim on.1, on.2))
    (c.hand_on.ensures.went gave left said events handed
    (subst (λ (k : AimView). IsCourseOf k gave left mid said events handed) (sym e.aim) went.0) known)

pub returns-clause-past : goal.returns-clause-past
returns-clause-past g c = λ gave left said before handed line so next past far.
    on_any _ c.hand_on.result
    (subst (λ (input : CompanionInput). IsPast line said input) (sym c.hand_on.ensures.companion)
    (c.in_ok-go_on.ensures.past gave left said before handed line so next past far))

pub returns-clause-fed : goal.returns-clause-fed
returns-clause-fed g c = λ calls has_ended has_failed fed.
    subst (λ (input : CompanionInput). IsFedBy calls has_ended has_failed input) (sym c.hand_on.ensures.companion)
    (c.go_on.ensures.fed calls has_ended has_failed fed)
