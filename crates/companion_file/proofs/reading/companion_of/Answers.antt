use Rattle.std.proofs.Common.{Result, length, subst, sym, ◌∙◌, arith}
use Rattle.std.specs.List.{before_first}
use Rattle.std.proofs.lemmas.Bool.{eqb-true}
use Rattle.text_parts.specs.Lines.{is_line_feed}
use Rattle.companion_file.specs.declared.fault.Refusal.{Refusal}
use Rattle.companion_file.specs.Draft.{Takes}
use Rattle.companion_file.specs.Seen.{companion_view}
use Rattle.companion_file.proofs.Reaching.{reached_line, reached_order, reached_whole, refused_companion}
use Rattle.companion_file.proofs.Reaching.{short_answer}
use Rattle.companion_file.proofs.reading.companion_of.Goals as goal

pub loop-rest-preserved : goal.loop-rest-preserved
loop-rest-preserved c =
    let rest = c.loop-rest.rest.now in
    let line = before_first is_line_feed rest in
    let new = c.take_next-taken.new.self in
    reached_line c.args.text.now rest line c.take_next-taken.result.1.now c.loop-rest.number c.loop-rest.draft new
    c.in_default.field-0 c.loop-rest.invariant c.take_next-taken.ensures.lines c.take_next-taken.ensures.shorter
    (subst (λ (r : Result Unit Refusal). Takes c.loop-rest.draft line r new) c.in_default.is
    c.take_next-taken.ensures.taken)

pub returns-in-Err : goal.returns-in-Err
returns-in-Err c =
    let rest = c.loop-rest.rest.now in
    let line = before_first is_line_feed rest in
    let new = c.take_next-taken.new.self in
    rw c.at.ensures
    (refused_companion c.args.text.now rest line c.take_next-taken.result.1.now c.loop-rest.number c.loop-rest.draft new
    c.in-Err.refusal c.loop-rest.invariant c.take_next-taken.ensures.lines
    (subst (λ (r : Result Unit Refusal). Takes c.loop-rest.draft line r new) c.in-Err.is
    c.take_next-taken.ensures.taken))

pub take_next-taken-requires-clause-order : goal.take_next-taken-requires-clause-order
take_next-taken-requires-clause-order c = reached_order c.args.text.now c.loop-rest.rest.now c.loop-rest.number
    c.loop-rest.draft c.loop-rest.invariant

pub spans-requires : goal.spans-requires
spans-requires c = reached_order c.args.text.now c.loop-rest.rest.now c.loop-rest.number c.loop-rest.draft
    c.loop-rest.invariant

pub finish-requires-clause-order : goal.finish-requires-clause-order
finish-requires-clause-order c = reached_order c.args.text.now c.loop-rest.rest.now c.loop-rest.number c.loop-rest.draft
    c.loop-rest.invariant

pub returns-in-Some : goal.returns-in-Some
returns-in-Some c =
    reached_whole c.args.text.now c.loop-rest.rest.now c.loop-rest.number c.loop-rest.draft
    (companion_view c.in-Some.companion) c.loop-rest.invariant
    (eqb-true (length c.loop-rest.rest.now) 0 (sym c.is_empty.ensures ∙ c.loop-rest-test.false)) c.in-Some.ensures

pub short_after-requires : goal.short_after-requires
short_after-requires c = omega (arith, c.loop-rest.invariant.fits)

pub returns-in-None : goal.returns-in-None
returns-in-None c =
    rw c.short_after.ensures
    (short_answer c.args.text.now c.loop-rest.rest.now c.loop-rest.number c.loop-rest.draft c.loop-rest.invariant
    (eqb-true (length c.loop-rest.rest.now) 0 (sym c.is_empty.ensures ∙ c.loop-rest-test.false)) c.in-None.ensures)
