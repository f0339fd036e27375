use Rattle.std.proofs.Common.{◌<◌, ◌++◌, List, length, take, arith, sym, subst}
use Rattle.cfs_model.specs.declared.act.Entry.{Entry}
use Rattle.window_joining.specs.Joining.{edge_of}
use Rattle.stream_audit.specs.Companion.{IsPast}
use Rattle.stream_audit.proofs.EventLines.{both_parts, first_below, first_next, rest_next}
use Rattle.stream_audit.proofs.SayingMore.{past_down}
use Rattle.stream_audit.proofs.course.Course.join_first.Goals as goal

pub go_on-requires-clause-next : goal.go_on-requires-clause-next
go_on-requires-clause-next c =
    let self = c.args.self.now in
    let before = c.requires.2 in
    let ready = c.requires.4 in
    let events = c.args.events.now in
    let n = c.min-count.result in
    let some : 0 < length events = omega arith in (
      c.requires.0,
      c.requires.1,
      ready.said,
      before,
      c.requires.3,
      ready.so_far,
      first_next before events n (ready.next some),
      past_down (edge_of (before ++ take n events)) (edge_of (before ++ events)) ready.said self.companion
          (first_below before events n (ready.next some)) (ready.past some),
    )

pub returns-clause-ready : goal.returns-clause-ready
returns-clause-ready c = λ gave left before handed ready.
    let self = c.args.self.now in
    let events = c.args.events.now in
    let n = c.min-count.result in
    let later = c.go_on.new.self in
    let some : 0 < length events = omega arith in
    let next = first_next before events n (ready.next some) in
    let past = past_down (edge_of (before ++ take n events)) (edge_of (before ++ events)) ready.said self.companion
    (first_below before events n (ready.next some)) (ready.past some) in
    let went = c.in_ok-go_on.ensures.went gave left ready.said before handed ready.so_far next past in
    let far = c.in_ok-go_on.ensures.past gave left ready.said before handed (edge_of (before ++ events)) ready.so_far
    next past (ready.past some) in (
      record {
        said = ready.said;
        so_far = went.0;
        next = λ more. rest_next before events n (ready.next some);
        past = λ more. subst (λ (es : List Entry). IsPast (edge_of es) ready.said later.companion)
            (sym (both_parts before events n)) far;
      },
      went.1,
    )
