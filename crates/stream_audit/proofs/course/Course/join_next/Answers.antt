use Rattle.std.proofs.Common.{◌++◌, drop, sym, subst, take}
use Rattle.stream_audit.specs.Aim.{AimView}
use Rattle.stream_audit.specs.Course.{IsReadyFor}
use Rattle.stream_audit.proofs.course.Course.join_next.Goals as goal

pub join_first-requires : goal.join_first-requires
join_first-requires g c =
    let later = c.read_past.new.self in
    let read = c.in_ok-read_past.ensures in
    let left = g.C.Feed.left c.read_past.new.companion in
    let next = c.requires.next in
    let ready = (read.went next.0 next.1 next.2 next.3 next.4 next.5).0 in (
      next.0,
      left,
      next.2,
      next.3,
      subst (λ (k : AimView). IsReadyFor k next.0 left later next.2 next.3 c.args.events.now) (sym read.aim) ready,
    )

pub returns-clause-joins : goal.returns-clause-joins
returns-clause-joins g c = record {
  went = λ gave said before handed so next.
      let later = c.read_past.new.self in
      let read = c.in_ok-read_past.ensures in
      let left = g.C.Feed.left c.read_past.new.companion in
      let went = read.went gave said before handed so next in
      let on = c.in_ok-count.ensures.ready gave left before handed
      (subst (λ (k : AimView). IsReadyFor k gave left later before handed c.args.events.now) (sym read.aim)
      went.0) in (
        subst (λ (k : AimView). IsReadyFor k gave left c.join_first.new.self
            (before ++ take c.in_ok-count.count c.args.events.now) handed (drop c.in_ok-count.count c.args.events.now))
            read.aim on.0,
        λ now. went.1 (on.1 now),
      );
}
