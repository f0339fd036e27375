use Rattle.std.proofs.Common.{rules, sym, ◌∙◌, true≢false, arith}
use Rattle.std.proofs.lemmas.Bool.Decides.{Decides-at}
use Rattle.std.proofs.lemmas.List.{get_or_default}
use Rattle.processor_stream.proofs.Same.{step_decides}
use Rattle.ticket_book.specs.Cursor.{IsCursor}
use Rattle.ticket_book.specs.declared.cursor.Cursor.TheVariants.{At}
use Rattle.ticket_book.proofs.Cursors.{falls_apart, keeps_up, stays_apart}
use Rattle.ticket_book.proofs.cursor.Cursor.after.Goals as goal
use Rattle.ticket_book.proofs.cursor.Cursor.after.Goals.{else-index-steps-via-then-index-steps+else-eq}
use Rattle.ticket_book.proofs.cursor.Cursor.after.Goals.{else-index-steps-via-else-index-steps}

pub returns-then-eq : goal.returns-then-eq
returns-then-eq c = λ dealt at.
    (let here : IsCursor c.args.steps.now dealt (At c.in-At.index) = rw c.in-At.is at at in
    let same = (Decides-at c.eq.result _ (search rules) (step_decides c.index-steps-index.result c.args.step)).0
    c.if-eq.true in
    keeps_up c.args.steps.now dealt c.in-At.index c.args.step here.0 here.1 c.if-index-steps.true
    (get_or_default c.args.steps.now c.in-At.index c.args.step c.index-steps-index.result c.if-index-steps.true
    ∙ sym c.index-steps-index.is ∙ same))

pub returns-in-Apart : goal.returns-in-Apart
returns-in-Apart c = λ dealt apart. stays_apart c.args.steps.now dealt c.args.step (rw c.in-Apart.is at apart)

pub returns-else-index-steps : goal.returns-else-index-steps
returns-else-index-steps c = λ dealt at.
    let here : IsCursor c.args.steps.now dealt (At c.in-At.index) = rw c.in-At.is at at in
    falls_apart c.args.steps.now dealt c.in-At.index c.args.step here.0 (λ within same.
    elim c.else-index-steps.branch [
      | else-index-steps-via-then-index-steps+else-eq w ↦
          let found = w.index-steps-index.is
          ∙ sym (get_or_default c.args.steps.now c.in-At.index c.args.step w.index-steps-index.result within) ∙ same in
          let equal = (Decides-at w.eq.result _ (search rules) (step_decides w.index-steps-index.result c.args.step)).1
          found in
          true≢false (sym equal ∙ w.if-eq.false)
      | else-index-steps-via-else-index-steps w ↦ let past = w.if-index-steps.false in
          absurd (omega (arith, within, past))
    ])
