use Rattle.std.proofs.Common.{◌≡◌, ◌++◌, false, Option, ap, sym, subst, ◌∙◌, arith}
use Rattle.std.specs.Prelude.{IsNone, Some, is_some}
use Rattle.cfs_model.specs.Limits.{no_line}
use Rattle.companion_file.specs.Reader.{with_all_said}
use Rattle.window_joining.specs.Joining.{edge_of}
use Rattle.stream_audit.specs.Companion.{IsPast}
use Rattle.stream_audit.specs.declared.companion_input.CompanionInput.{CompanionInput}
use Rattle.stream_audit.specs.declared.joined_events.JoinedEvents.{JoinedEvents}
use Rattle.stream_audit.proofs.Calm.{begun_refusal, calm_from, joined_refusal}
use Rattle.stream_audit.proofs.Going.{amid_of, bad_passes, comes_as, comes_next, goes_through, none_passes}
use Rattle.stream_audit.proofs.SayingMore.{past_down}
use Rattle.stream_audit.proofs.course.Course.join.Goals as goal

pub join-requires : goal.join-requires
join-requires c =
    let next = c.requires.next in
    let aim = c.args.self.now.aim in
    let old = c.args.self.now.companion in
    let course = c.begin.new.self in
    let draft = course.companion.reader.draft in
    let events = c.args.events.now in
    let joined = c.in-Some.joined in
    let none = sym c.is_bad.ensures ∙ c.if-is_bad.false in
    let so = c.in_ok-begin.ensures.stays next.0 next.1 next.2 next.3 next.4 next.5
    (past_down no_line (edge_of (next.3 ++ events)) next.2 old (omega arith) next.7) in
    let amid = amid_of aim next.0 next.1 course next.2 next.3 next.4 joined so none c.in-Some.is in (
      with_all_said amid.start next.2,
      next.3,
      next.4,
      comes_as (with_all_said amid.start next.2) next.3 next.4 events joined draft.claims _ draft.nices _
          draft.charges _ c.claims-claims.ensures c.nices.ensures c.charges.ensures
          (comes_next aim next.0 next.1 course next.2 next.3 next.4 events joined so next.6 none amid),
    )

pub returns-then-is_bad-clause-went : goal.returns-then-is_bad-clause-went
returns-then-is_bad-clause-went c = λ gave left said before handed so next past.
    let old = c.args.self.now in
    let begun = c.begin.new.self in
    let e = c.in_ok-begin.ensures in (
      bad_passes old.aim gave left begun said before handed c.args.events.now
          (e.stays gave left said before handed so
          (past_down no_line (edge_of (before ++ c.args.events.now)) said old.companion (omega arith) past))
          next (sym c.is_bad.ensures ∙ c.if-is_bad.true),
      calm_from old begun (subst (λ (input : CompanionInput). IsNone input.reader.bad) e.companion)
          (begun_refusal old.joined begun.joined e.same),
    )

pub returns-in_ok-join-clause-went : goal.returns-in_ok-join-clause-went
returns-in_ok-join-clause-went c = λ gave left said before handed so next past.
    let first = c.args.self.now in
    let aim = first.aim in
    let old = first.companion in
    let course = c.begin.new.self in
    let draft = course.companion.reader.draft in
    let events = c.args.events.now in
    let joined = c.in-Some.joined in
    let e = c.in_ok-begin.ensures in
    let none = sym c.is_bad.ensures ∙ c.if-is_bad.false in
    let begun = e.stays gave left said before handed so
    (past_down no_line (edge_of (before ++ events)) said old (omega arith) past) in
    let amid = amid_of aim gave left course said before handed joined begun none c.in-Some.is in
    let of = with_all_said amid.start said in (
      goes_through aim gave left course said before handed events joined c.join.new.self begun next
          (subst (λ (input : CompanionInput). IsPast (edge_of (before ++ events)) said input) (sym e.companion) past)
          amid
          (c.in_ok-join.ensures.joined of before handed
          (comes_as of before handed events joined draft.claims _ draft.nices _ draft.charges _
          c.claims-claims.ensures c.nices.ensures c.charges.ensures
          (comes_next aim gave left course said before handed events joined begun next none amid))),
      calm_from first (record course { joined = Some c.join.new.self })
          (subst (λ (input : CompanionInput). IsNone input.reader.bad) e.companion)
          (joined_refusal first.joined course.joined joined c.join.new.self e.same c.in-Some.is
          c.in_ok-join.ensures.refused),
    )

pub returns-in_default-clause-went : goal.returns-in_default-clause-went
returns-in_default-clause-went c = λ gave left said before handed so next past.
    let old = c.args.self.now in
    let course = c.begin.new.self in
    let events = c.args.events.now in
    let e = c.in_ok-begin.ensures in
    let none : is_some course.joined ≡ false = ap (λ (o : Option JoinedEvents). is_some o) c.in_default.is in (
      none_passes old.aim gave left course said before handed events
          (e.stays gave left said before handed so
          (past_down no_line (edge_of (before ++ events)) said old.companion (omega arith) past)) next
          (subst (λ (input : CompanionInput). IsPast (edge_of (before ++ events)) said input) (sym e.companion) past)
          c.in_default.is (λ good. e.begun gave left said before handed so good none),
      calm_from old course (subst (λ (input : CompanionInput). IsNone input.reader.bad) e.companion)
          (begun_refusal old.joined course.joined e.same),
    )
