use Rattle.std.proofs.Common.{◌<◌, ◌++◌, List, drop, length, sym, subst, take}
use Rattle.cfs_model.specs.declared.act.Entry.{Entry}
use Rattle.stream_audit.specs.Course.{AreEventsNext, IsReadyFor}
use Rattle.stream_audit.proofs.Heard.{course_pending, ready_first}
use Rattle.stream_audit.proofs.intake.Intake.join_last.Goals as goal

pub join_next-requires-clause-next : goal.join_next-requires-clause-next
join_next-requires-clause-next g c =
    let self = c.args.self.now in
    let p = c.requires.pending in
    let pending = p.4 in (
      p.1,
      pending.said,
      pending.before,
      p.3,
      course_pending p.0 p.1 _ p.2 self.reader self.course p.3 self.events.items pending,
      subst (λ (es : List Entry). 0 < length es → AreEventsNext pending.before es) (sym c.deref.ensures.value)
          pending.next,
    )

pub returns-clause-ready : goal.returns-clause-ready
returns-clause-ready g c = λ aim gave bytes handed pending.
    let self = c.args.self.now in
    let events = self.events.items in
    let n = c.in_ok-self.field-0 in
    let later = c.join_next.new.self in
    let left = g.C.Feed.left c.join_next.new.companion in
    let went = c.in_ok-self.ensures.joins.went gave pending.said pending.before handed
    (course_pending aim gave _ bytes self.reader self.course handed events pending)
    (subst (λ (es : List Entry). 0 < length es → AreEventsNext pending.before es) (sym c.deref.ensures.value)
    pending.next) in (
      ready_first aim gave _ left bytes self.reader self.course later handed events n pending
          (subst (λ (es : List Entry). IsReadyFor self.course.aim gave left later (pending.before ++ take n es) handed
          (drop n es)) c.deref.ensures.value went.0),
      went.1,
    )
