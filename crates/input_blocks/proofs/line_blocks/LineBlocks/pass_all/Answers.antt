use Rattle.std.proofs.Common.{◌++◌, ap, refl, ◌∙◌}
use Rattle.input_blocks.proofs.Turning.{both_passed, last_passed}
use Rattle.input_blocks.specs.Blocks.{filled}
use Rattle.input_blocks.proofs.line_blocks.LineBlocks.pass_all.Goals as goal

pub returns-in_ok-pass_last-clause-passed : goal.returns-in_ok-pass_last-clause-passed
returns-in_ok-pass_last-clause-passed g c = λ gave left done amid end.
    let reads = g.L.LineReader.reads in
    let old = c.args.self.now in
    let law = c.lines_after_whole.ensures in
    let on = g.met.L.LineReader.reads_on in
    let first = c.in_ok-pass.ensures in
    last_passed reads law on gave left _ done old.source.bounded old.source.small c.args.reader.now c.pass-2.new.reader
    c.pass_last.new.reader amid.whole
    (both_passed reads law on gave left old done old.source.bounded old.source.small c.args.reader.now c.pass.new.reader
    c.pass-2.new.reader _ c.pass.new.self c.filled.result.now amid first.passed first.none
    c.in_ok-pass-2.ensures.passed c.filled.ensures refl c.clear.ensures refl refl _ refl)
    (ap (λ t. t ++ filled c.clear.new.self) first.none ∙ c.clear.ensures) (end c.if-not-goes_on.true)
    c.in_ok-pass_last.ensures _ c.if-not-goes_on.true

pub returns-else-not-goes_on-clause-passed : goal.returns-else-not-goes_on-clause-passed
returns-else-not-goes_on-clause-passed g c = λ gave left done amid end.
    let reads = g.L.LineReader.reads in
    let old = c.args.self.now in
    let first = c.in_ok-pass.ensures in
    both_passed reads c.lines_after_whole.ensures g.met.L.LineReader.reads_on gave left old done old.source.bounded
    old.source.small c.args.reader.now c.pass.new.reader c.pass-2.new.reader _ c.pass.new.self c.filled.result.now amid
    first.passed first.none c.in_ok-pass-2.ensures.passed c.filled.ensures refl c.clear.ensures refl refl _
    c.if-not-goes_on.false
