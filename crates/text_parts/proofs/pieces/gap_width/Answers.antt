use Rattle.std.proofs.Common.{sym, arith}
use Rattle.std.proofs.lemmas.List.Sums.{prefix_len_is}
use Rattle.text_parts.specs.Pieces.{is_space}
use Rattle.text_parts.proofs.pieces.gap_width.Goals as goal

pub returns-then-width-lt-TOGETHER-clause-count : goal.returns-then-width-lt-TOGETHER-clause-count
returns-then-width-lt-TOGETHER-clause-count c =
    let found = c.spaces_in_front-width.ensures in
    sym (prefix_len_is is_space c.args.text.now c.spaces_in_front-width.result 0
    (omega (arith, c.if-text-ge-TOGETHER.true, found.few)) found.passed
    (λ lt. found.stops (omega (arith, c.if-width-lt-TOGETHER.true))))
