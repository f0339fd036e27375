use Rattle.std.proofs.Common.{◌≡◌, ◌-◌, ℕ, List, Option, length, get_or, refl, sym, subst, ◌∙◌, arith}
use Rattle.std.proofs.lemmas.Bool.{eqb-true}
use Rattle.companion_file.specs.Earlier.{Said}
use Rattle.stream_audit.specs.Companion.{IsCompanionAt, IsPast, SaysOn}
use Rattle.stream_audit.specs.Course.{IsCalm, IsReadyFor}
use Rattle.stream_audit.proofs.Calm.{calm_from, same_refusal}
use Rattle.stream_audit.proofs.BothRead.{few_reads}
use Rattle.stream_audit.proofs.EventLines.{edge_is}
use Rattle.stream_audit.proofs.Going.{made_ready, on_both}
use Rattle.stream_audit.proofs.course.Course.read_past.Goals as goal

pub returns-then-is_empty-clause-went : goal.returns-then-is_empty-clause-went
returns-then-is_empty-clause-went g c = λ gave said before handed so next.
    let none : length c.args.events.now ≡ 0 = eqb-true _ 0 (sym c.is_empty.ensures ∙ c.if-is_empty.true) in (
      record { said = said; so_far = so; next = next; past = λ some. absurd (omega (arith, none, some)) },
      λ calm. calm,
    )

pub returns-then-is_empty-clause-bounded : goal.returns-then-is_empty-clause-bounded
returns-then-is_empty-clause-bounded g c = few_reads _ _ _ c.args.self.now.companion c.requires.fed

pub returns-clause-went : goal.returns-clause-went
returns-clause-went g c = λ gave said before handed so next.
    let course = c.args.self.now in
    let events = c.args.events.now in
    let event = c.index-events-events.result in
    let line = (get_or events (length events - 1) event).line in
    let input = c.read_past.new.self in
    let left = g.C.Feed.left c.read_past.new.feed in
    let later = record course { companion = input } in
    on_both (SaysOn gave left course.companion input said so.edge)
    ((gave : Option (List ℕ)) (said : Said) (edge : ℕ) → IsCompanionAt gave left input said edge
    → IsPast line said input)
    (IsReadyFor course.aim gave left later before handed events × (IsCalm later → IsCalm course)) c.read_past.result
    (λ on past. (
      made_ready course.aim gave (g.C.Feed.left c.args.companion.now) left course later said before handed events
          so next refl refl on
          (λ some. subst (λ (n : ℕ). IsPast n on.after input) (sym (edge_is before events event some))
          (past gave on.after so.edge on.at)),
      calm_from course later on.good (same_refusal course.joined course.joined refl),
    )) (c.read_past.ensures.read gave said so.edge so.stands) c.read_past.ensures.past
