use Rattle.std.proofs.Common.{rules, ◌≡◌, ◌<◌, true, not, ap, ◌∙◌, refl, [], subst, sym, arith, length}
use Rattle.std.proofs.lemmas.Bool.{eqb-true}
use Rattle.std.specs.Result.{is_ok}
use Rattle.recording_audit.proofs.Grown.{grown_more, grown_none, grown_refused, grown_whole}
use Rattle.recording_audit.specs.Causes.{IsCaused}
use Rattle.recording_audit.specs.Parts.{IsTold}
use Rattle.recording_audit.specs.Recording.{last_text}
use Rattle.recording_audit.proofs.headline.audit_recording.Goals as goal

-- there is no part yet
pub loop-rest-init : goal.loop-rest-init
loop-rest-init g c =
    rw c.new-parts.ensures.items
    (grown_none c.args.asked.now.limits c.args.asked.now.least_events c.args.text.now c.first_cause-known.result
    c.first_cause-known.ensures)

-- the part was taken, so it is one more
pub loop-rest-preserved : goal.loop-rest-preserved
loop-rest-preserved g c =
    let was = c.loop-rest.invariant in
    let some = was.some in
    let taken : is_ok c.push.result ≡ true = c.is_err.ensures.negation ∙ ap not c.if-is_err.false in
    let limits = c.args.asked.now.limits in
    let piece = c.in-Ok.piece in
    let before = last_text [] c.loop-rest.parts.items in
    let was_told = subst (λ limits. IsTold limits piece.text.now piece.told) c.at-now.ensures c.in-Ok.ensures.piece.1 in
    let was_caused = subst (λ limits. IsCaused limits before piece.text.now piece.told) c.at-now.ensures
    (c.in-Ok.ensures.caused before was.next) in
    let told = c.long_enough-told.ensures.told limits piece.text.now was_told in
    let caused = c.long_enough-told.ensures.caused limits before piece.text.now was_told was_caused in
    rw (c.push.ensures.items, taken)
    (grown_more limits c.args.asked.now.least_events c.args.text.now c.loop-rest.parts.items _ c.loop-rest.rest.now
    piece.rest.now c.loop-rest.number c.line_count-lines.result c.loop-rest.known piece.next was
    c.in-Ok.ensures.piece.0 caused c.in-Ok.ensures.piece.2 told c.long_enough-told.ensures.long refl
    (omega (arith, some)) c.line_count-lines.ensures.count c.line_count-lines.ensures.within)

-- nothing is left, so the parts are all of it
pub returns-clause-parts : goal.returns-clause-parts
returns-clause-parts g c =
    grown_whole c.args.asked.now.limits c.args.asked.now.least_events c.args.text.now c.loop-rest.parts.items
    c.loop-rest.rest.now c.loop-rest.number c.loop-rest.known c.loop-rest.invariant
    (eqb-true (length c.loop-rest.rest.now) 0 (sym c.is_empty.ensures ∙ c.loop-rest-test.false))

-- there is no next part: the line behind the parts is told by its number
pub returns-in-Err-clause-refused : goal.returns-in-Err-clause-refused
returns-in-Err-clause-refused g c =
    let was = c.loop-rest.invariant in
    let before = last_text [] c.loop-rest.parts.items in
    let some : 0 < length c.loop-rest.rest.now = search rules in
    grown_refused c.args.asked.now.limits c.args.asked.now.least_events c.args.text.now c.loop-rest.parts.items
    c.loop-rest.rest.now c.loop-rest.number c.loop-rest.known c.in-Err.why c.at.result was some
    (c.in-Err.ensures.refused before was.next) c.at.ensures
