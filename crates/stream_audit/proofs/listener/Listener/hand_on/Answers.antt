use Rattle.std.proofs.Common.{drop, sym, subst}
use Rattle.stream_audit.specs.Companion.{IsFedBy}
use Rattle.stream_audit.specs.declared.companion_input.CompanionInput.{CompanionInput}
use Rattle.stream_audit.proofs.Heard.{ready_on, ready_there}
use Rattle.stream_audit.proofs.listener.Listener.hand_on.Goals as goal

pub go_through_rest-requires-clause-ready : goal.go_through_rest-requires-clause-ready
unfolding ready_there
go_through_rest-requires-clause-ready g c κs within =
    let intake = c.args.self.now.intake in
    let course = intake.course in
    let aim = c.requires.ready.0 in
    let gave = c.requires.ready.1 in
    let left = c.requires.ready.2 in
    let bytes = c.requires.ready.3 in
    let handed = c.requires.ready.4 in
    let ready = c.requires.ready.5 in
    let rest = drop intake.next intake.events.items in
    let there = ready_there aim gave left bytes intake.reader course handed rest ready in
    let on = c.in_ok-hand_on.ensures.went gave left there.said ready.before handed there.so_far
    (c.in_ok-let_go.ensures.judged handed c.requires.ready.6) in (
      aim,
      gave,
      left,
      bytes,
      on.0,
      ready_on aim gave left bytes intake.reader course c.hand_on.new.self handed on.0 rest ready
          c.in_ok-hand_on.ensures.companion on.1,
      on.2,
    )

pub returns-clause-heard : goal.returns-clause-heard
unfolding ready_there
returns-clause-heard g c = λ aim gave left bytes handed ready judged.
    let intake = c.args.self.now.intake in
    let course = intake.course in
    let rest = drop intake.next intake.events.items in
    let there = ready_there aim gave left bytes intake.reader course handed rest ready in
    let on = c.in_ok-hand_on.ensures.went gave left there.said ready.before handed there.so_far
    (c.in_ok-let_go.ensures.judged handed judged) in
    c.go_through_rest.ensures.heard aim gave left bytes on.0
    (ready_on aim gave left bytes intake.reader course c.hand_on.new.self handed on.0 rest ready
    c.in_ok-hand_on.ensures.companion on.1) on.2

pub returns-clause-fed : goal.returns-clause-fed
returns-clause-fed g c = λ calls has_ended has_failed fed.
    c.go_through_rest.ensures.fed calls has_ended has_failed
    (subst (λ (input : CompanionInput). IsFedBy calls has_ended has_failed input)
    (sym c.in_ok-hand_on.ensures.companion) fed)
