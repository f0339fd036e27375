use Rattle.std.proofs.Common.{inl, inr, ap, arith}
use Rattle.std.proofs.lemmas.Bool.{cases_lt}
use Rattle.sched_record.proofs.Seeking.{above_hint}
use Rattle.sched_record.proofs.on_line.index_near.Goals as goal

pub returns-then-line-clause-below : goal.returns-then-line-clause-below
returns-then-line-clause-below g c k d le lt =
    let line_of = g.T.OnLine.line in
    let is = ap line_of c.index-items-hint.is in
    let said = c.line.ensures in
    elim (cases_lt k c.args.hint) [
      | inl passed ↦ above_hint line_of c.args.items.now c.args.hint c.args.line c.index-items-hint.result
          c.requires.rise c.if-hint-items.true
          (omega (arith, is, said, c.if-line.true)) k d passed
      | inr ahead ↦ c.index_from.ensures.below k d ahead lt
    ]
