use Rattle.std.proofs.Common.{◌-◌, ◌++◌, length, get_or, refl, sym, subst}
use Rattle.stream_audit.specs.Companion.{IsFedBy, IsPast}
use Rattle.stream_audit.specs.declared.companion_input.CompanionInput.{CompanionInput}
use Rattle.stream_audit.proofs.EventLines.{edge_is, some_events}
use Rattle.stream_audit.proofs.Going.{forgets, forgets_calm, still_past}
use Rattle.stream_audit.proofs.course.Course.go_on.Goals as goal

pub returns-in_err-join-clause-fed : goal.returns-in_err-join-clause-fed
returns-in_err-join-clause-fed c = λ calls has_ended has_failed fed.
    subst (λ (input : CompanionInput). IsFedBy calls has_ended has_failed input) (sym c.join.ensures.companion) fed

pub returns-clause-went : goal.returns-clause-went
returns-clause-went c = λ gave left said before handed so next past.
    let course = c.args.self.now in
    let events = c.args.events.now in
    let event = c.index-events-events.result in
    let line = (get_or events (length events - 1) event).line in
    let is = sym (edge_is before events event (some_events events c.requires.some)) in
    let mid = c.join.new.self in
    let went = c.in_ok-join.ensures.went gave left said before handed so next past in
    let later = record mid { companion = record (mid.companion) { reader = c.forget_through.new.self } } in (
      forgets course.aim gave left mid later said (before ++ events) handed line went.0 is refl refl refl refl
          c.forget_through.ensures.stays,
      λ calm. went.1 (forgets_calm course.aim gave left mid later said (before ++ events) handed line went.0 is refl
          c.forget_through.ensures.stays calm),
    )

pub returns-clause-past : goal.returns-clause-past
returns-clause-past c = λ gave left said before handed edge so next past far.
    let course = c.args.self.now in
    let events = c.args.events.now in
    let event = c.index-events-events.result in
    let line = (get_or events (length events - 1) event).line in
    let is = sym (edge_is before events event (some_events events c.requires.some)) in
    let went = c.join.new.self in
    let later = record went { companion = record (went.companion) { reader = c.forget_through.new.self } } in
    still_past course.aim gave left went later said (before ++ events) handed line edge
    (c.in_ok-join.ensures.went gave left said before handed so next past).0 is refl c.forget_through.ensures.stays
    (subst (λ (input : CompanionInput). IsPast edge said input) (sym c.in_ok-join.ensures.companion) far)

pub returns-clause-fed : goal.returns-clause-fed
returns-clause-fed c = λ calls has_ended has_failed fed.
    let was = subst (λ (input : CompanionInput). IsFedBy calls has_ended has_failed input)
    (sym c.in_ok-join.ensures.companion) fed in
    record { counted = was.counted; ended = was.ended; heard = was.heard }
