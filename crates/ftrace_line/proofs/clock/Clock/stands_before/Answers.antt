use Rattle.std.proofs.Common.{get_or, sym, ◌∙◌, arith}
use Rattle.ftrace_line.proofs.Remembered.{by_full_mask, fronts_same}
use Rattle.ftrace_line.proofs.clock.Clock.stands_before.Goals as goal

pub returns : goal.returns
returns c = λ same.
    let clock = c.args.self.now in
    let text = c.args.text.now in
    fronts_same text clock.bytes clock.width (omega (arith, clock.few, c.requires))
    (omega (arith, clock.few)) (λ k lt.
    sym (by_full_mask (get_or text k 0) (get_or clock.mask k 0) (c.type_inv.text k).fits (clock.masked k lt))
    ∙ c.loop-index.invariant same k (omega (arith, lt, clock.few, c.loop-index.auto, c.loop-index-test.false)))
