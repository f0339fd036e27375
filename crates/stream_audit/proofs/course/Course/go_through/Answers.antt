use Rattle.std.proofs.Common.{◌≡◌, ◌+◌, ◌-◌, ◌<◌, ◌++◌, List, length, take, take_all, refl, sym, ap, subst, ◌∙◌}
use Rattle.std.proofs.Common.{append-nil, arith}
use Rattle.stream_audit.specs.Aim.{AimView}
use Rattle.cfs_model.specs.declared.act.Entry.{Entry}
use Rattle.window_joining.specs.Joining.{edge_of}
use Rattle.stream_audit.specs.Course.{IsCourseOf}
use Rattle.stream_audit.proofs.EventLines.{next_window, window_below, with_window}
use Rattle.stream_audit.proofs.SayingMore.{past_down}
use Rattle.stream_audit.proofs.course.Course.go_through.Goals as goal

pub loop-from-init : goal.loop-from-init
loop-from-init g c = record {
  within = omega arith;
  aim = refl;
  handed_on = c.requires.handed_on;
  fed = λ calls has_ended has_failed fed. fed;
  went = λ gave left before handed ready judged. (
    handed,
    subst (λ (es : List Entry). IsCourseOf c.args.self.now.aim gave left c.args.self.now ready.said es handed)
        (sym (append-nil before)) ready.so_far,
    judged,
  );
  past = λ gave left before handed ready judged some. ready.past some;
}

pub go_further-requires-clause-next : goal.go_further-requires-clause-next
go_further-requires-clause-next g c κs within =
    let gave = c.requires.ready.0 in
    let left = c.requires.ready.1 in
    let before = c.requires.ready.2 in
    let handed = c.requires.ready.3 in
    let ready = c.requires.ready.4 in
    let judged = c.requires.ready.5 in
    let so_far = c.loop-from.invariant in
    let events = c.args.events.now in
    let at = c.loop-from.from in
    let count = at + c.min.result - at in
    let some : 0 < length events = omega arith in
    let went = so_far.went gave left before handed ready judged in (
      gave,
      left,
      ready.said,
      before ++ take at events,
      went.0,
      subst (λ (k : AimView). IsCourseOf k gave left c.loop-from.self ready.said (before ++ take at events) went.0)
          (sym so_far.aim) went.1,
      next_window before events at count (ready.next some),
      past_down _ (edge_of (before ++ events)) ready.said c.loop-from.self.companion
          (window_below before events at count (ready.next some))
          (so_far.past gave left before handed ready judged some),
      went.2,
    )

pub loop-from-preserved : goal.loop-from-preserved
loop-from-preserved g c =
    let so_far = c.loop-from.invariant in
    let events = c.args.events.now in
    let at = c.loop-from.from in
    let count = at + c.min.result - at in
    let e = c.in_ok-go_further.ensures in
    let same : at + count ≡ at + c.min.result = omega arith in
    let some : 0 < length events = omega arith in
    record {
      within = omega arith;
      aim = e.aim ∙ so_far.aim;
      handed_on = e.handed_on;
      fed = λ calls has_ended has_failed fed. e.fed calls has_ended has_failed (so_far.fed calls has_ended has_failed
          fed);
      went = λ gave left before handed ready judged.
          let went = so_far.went gave left before handed ready judged in
          let so = subst (λ (k : AimView). IsCourseOf k gave left c.loop-from.self ready.said
          (before ++ take at events) went.0) (sym so_far.aim) went.1 in
          let past = past_down _ (edge_of (before ++ events)) ready.said c.loop-from.self.companion
          (window_below before events at count (ready.next some))
          (so_far.past gave left before handed ready judged some) in
          let on = e.went gave left ready.said (before ++ take at events) went.0 so
          (next_window before events at count (ready.next some)) past went.2 in (
            on.0,
            subst (λ (k : AimView). IsCourseOf k gave left c.go_further.new.self ready.said
                (before ++ take (at + c.min.result) events) on.0) so_far.aim
                (subst (λ (es : List Entry). IsCourseOf c.loop-from.self.aim gave left c.go_further.new.self
                ready.said es on.0)
                (with_window before events at count ∙ ap (λ n. before ++ take n events) same) on.1),
            on.2,
          );
      past = λ gave left before handed ready judged some.
          let went = so_far.went gave left before handed ready judged in
          let so = subst (λ (k : AimView). IsCourseOf k gave left c.loop-from.self ready.said
          (before ++ take at events) went.0) (sym so_far.aim) went.1 in
          let all = so_far.past gave left before handed ready judged some in
          e.past gave left ready.said (before ++ take at events) went.0 (edge_of (before ++ events)) so
          (next_window before events at count (ready.next some))
          (past_down _ (edge_of (before ++ events)) ready.said c.loop-from.self.companion
          (window_below before events at count (ready.next some)) all) all;
    }

pub returns-in_err-go_further-clause-fed : goal.returns-in_err-go_further-clause-fed
returns-in_err-go_further-clause-fed g c = λ calls has_ended has_failed fed.
    c.go_further.ensures.fed calls has_ended has_failed (c.loop-from.invariant.fed calls has_ended has_failed fed)

pub returns-clause-went : goal.returns-clause-went
returns-clause-went g c = λ gave left before handed ready judged.
    let events = c.args.events.now in
    let went = c.loop-from.invariant.went gave left before handed ready judged in (
      went.0,
      (
        ready.said,
        subst (λ (es : List Entry). IsCourseOf c.args.self.now.aim gave left c.loop-from.self ready.said
            (before ++ es) went.0) (take_all c.loop-from.from events (omega arith)) went.1,
      ),
      went.2,
    )
