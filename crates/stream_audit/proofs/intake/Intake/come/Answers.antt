use Rattle.std.proofs.Common.{◌<◌, ◌++◌, List, drop, length, sym, subst, take}
use Rattle.cfs_model.specs.declared.act.Entry.{Entry}
use Rattle.stream_audit.specs.Course.{AreEventsNext, IsReadyFor}
use Rattle.stream_audit.proofs.Heard.{course_pending, pending_on, ready_first}
use Rattle.stream_audit.proofs.UnderWay.{if_ok, of_ok, on_ok_of}
use Rattle.stream_audit.proofs.intake.Intake.come.Goals as goal

pub join_and_read-joined-requires-clause-next : goal.join_and_read-joined-requires-clause-next
join_and_read-joined-requires-clause-next g c κs within =
    let self = c.args.self.now in
    let p = c.requires.coming in
    let pending = p.4.pending in (
      p.2,
      pending.said,
      pending.before,
      p.3,
      course_pending p.0 p.2 _ p.4.bytes self.reader self.course p.3 self.events.items pending,
      subst (λ (es : List Entry). 0 < length es → AreEventsNext pending.before es) (sym c.deref.ensures.value)
          pending.next,
    )

pub returns-in-Ok-clause-came : goal.returns-in-Ok-clause-came
unfolding pending_on
returns-in-Ok-clause-came g c = λ aim trace_gave gave handed coming.
    let self = c.args.self.now in
    let events = self.events.items in
    let n = c.in-Ok.count in
    let both = c.join_and_read-joined in
    let later = both.new.course in
    let left = g.C.Feed.left both.new.companion in
    let pending = coming.pending in
    let went = of_ok _ _ n c.in-Ok.is
    (both.ensures.joins.went gave pending.said pending.before handed
    (course_pending aim gave _ coming.bytes self.reader self.course handed events pending)
    (subst (λ (es : List Entry). 0 < length es → AreEventsNext pending.before es) (sym c.deref.ensures.value)
    pending.next)) in
    if_ok _ _ both.result.1
    (λ goes_on comes. record {
      bytes = coming.bytes ++ comes.more;
      stands = comes.next;
      ready = ready_first aim gave _ left (coming.bytes ++ comes.more) both.new.reader self.course later handed events
          n (pending_on aim gave _ coming.bytes comes.more self.reader both.new.reader self.course handed events
          comes.lines comes.read pending)
          (subst (λ (es : List Entry). IsReadyFor self.course.aim gave left later (pending.before ++ take n es) handed
          (drop n es)) c.deref.ensures.value went.0);
      calm = went.1;
      starts = on_ok_of _ _ n c.in-Ok.is both.ensures.starts;
      same_knobs = both.ensures.aim;
    }) (both.ensures.passed trace_gave coming.bytes coming.stands)
