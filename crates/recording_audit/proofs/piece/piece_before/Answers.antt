use Rattle.std.proofs.Common.{rules, ◌+◌, [], inr, length, refl, subst}
use Rattle.text_parts.specs.Lines.{lines_of}
use Rattle.recording_audit.specs.Causes.{IsKnown}
use Rattle.recording_audit.specs.Parts.{IsBadFor}
use Rattle.recording_audit.proofs.Causing.{known_here, known_of_bad}
use Rattle.recording_audit.proofs.piece.piece_before.Goals as goal

-- the front was no run up to this line, and neither is the text
pub loop-preserved : goal.loop-preserved
loop-preserved g c =
    let front = c.split_lines.result.0.now in
    let bad : IsBadFor front c.in-Bad.line c.in-Bad.why = search rules in
    known_of_bad c.args.text.now front c.split_lines.result.1.now c.in-Bad.line c.in-Bad.why c.split_lines.ensures bad

-- the cut is the text's first line, of which the cause is known
pub returns-then-last-le1-clause-caused : goal.returns-then-last-le1-clause-caused
returns-then-last-le1-clause-caused g c =
    λ before. c.cut_piece.ensures.caused c.args.asked.now.limits before [] (inr refl)
    (known_here c.args.text.now c.cause_of_first.result (c.cause_of_first.ensures c.args.text.now c.loop.invariant))

-- and that it can't be read on from, if it can't
pub returns-then-last-le1-clause-refused : goal.returns-then-last-le1-clause-refused
returns-then-last-le1-clause-refused g c =
    λ before. c.cut_piece.ensures.refused before [] (inr refl)
    (known_here c.args.text.now c.cause_of_first.result (c.cause_of_first.ensures c.args.text.now c.loop.invariant))

-- tries are given up, and nothing is refused
pub returns-clause-refused : goal.returns-clause-refused
returns-clause-refused g c = λ before. c.cut_piece-2.ensures.refused before [] (inr refl) tt

-- the front and the rest are the text
pub returns-in-Run-clause-piece : goal.returns-in-Run-clause-piece
returns-in-Run-clause-piece g c =
    let front = c.split_lines.result.0.now in (
      c.split_lines.ensures,
      search rules,
      subst (λ text. IsKnown text (length (lines_of front) + 1) c.cause_behind.result) c.split_lines.ensures.bytes
          (c.cause_behind.ensures c.args.text.now c.loop.invariant),
    )

pub returns-in-Quiet-clause-piece : goal.returns-in-Quiet-clause-piece
returns-in-Quiet-clause-piece g c =
    let front = c.split_lines.result.0.now in
    let known = c.cause_behind-in-Quiet in (
      c.split_lines.ensures,
      search rules,
      subst (λ text. IsKnown text (length (lines_of front) + 1) known.result) c.split_lines.ensures.bytes
          (known.ensures c.args.text.now c.loop.invariant),
    )
