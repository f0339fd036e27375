use Rattle.std.proofs.Common.{sym, ◌∙◌, arith}
use Rattle.text_parts.proofs.Fronts.{same_more, differs_so_far}
use Rattle.text_parts.proofs.pieces.begins_with.Goals as goal

pub loop-index-preserved : goal.loop-index-preserved
loop-index-preserved c = rw (same_more c.args.text.now c.args.front.now c.loop-index.index (omega arith) (omega arith))
    cc

pub returns-then-not-same : goal.returns-then-not-same
returns-then-not-same c =
    sym (differs_so_far c.args.front.now c.args.text.now c.loop-index.index (omega arith) (sym c.loop-index.invariant
    ∙ c.if-not-same.true))
