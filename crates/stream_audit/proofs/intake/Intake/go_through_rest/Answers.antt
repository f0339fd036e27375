use Rattle.std.proofs.Common.{◌≡◌, ◌∙◌, ◌++◌, List, drop, ap, sym, subst}
use Rattle.cfs_model.specs.Claimed.{Claimed}
use Rattle.cfs_model.specs.declared.act.Entry.{Entry}
use Rattle.stream_audit.specs.Course.{AreJudged, CourseGoesOn, IsHandedOn}
use Rattle.stream_audit.specs.Hearing.{IsHeard, IsReady}
use Rattle.stream_audit.proofs.Going.{on_both}
use Rattle.stream_audit.proofs.Heard.{gone_through, ready_there}
use Rattle.stream_audit.proofs.intake.Intake.go_through_rest.Goals as goal

pub returns-clause-heard : goal.returns-clause-heard
returns-clause-heard g c = λ aim gave left bytes handed ready judged.
    let self = c.args.self.now in
    let later = c.go_through.new.self in
    let rest = c.split_at.result.1.now in
    let same : rest ≡ drop self.next self.events.items =
    c.split_at.ensures.back ∙ ap (λ es. drop self.next es) c.deref.ensures.value in
    let there = subst (λ (es : List Entry). IsReady aim gave left bytes self.reader self.course handed es) (sym same)
    ready in
    on_both
    ((after : List Claimed) × CourseGoesOn self.course.aim gave left later (there.before ++ rest) after
    × AreJudged later after c.go_through.new.judge)
    (IsHandedOn later) (IsHeard aim gave left bytes self.reader later c.go_through.new.judge) c.go_through.result
    (λ on handed_on. record {
      handed = on.0;
      by = gone_through aim gave left bytes self.reader self.course later handed rest on.0 there on.1;
      judged = on.2;
      handed_on = handed_on;
    })
    (c.go_through.ensures.went gave left there.before handed
    (ready_there aim gave left bytes self.reader self.course handed rest there) judged)
    c.go_through.ensures.handed_on
