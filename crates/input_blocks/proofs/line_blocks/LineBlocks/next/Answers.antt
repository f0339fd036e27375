use Rattle.std.proofs.Common.{refl}
use Rattle.input_blocks.proofs.Coming.{amid_read}
use Rattle.input_blocks.proofs.line_blocks.LineBlocks.next.Goals as goal

pub returns-clause-passed : goal.returns-clause-passed
returns-clause-passed g c = λ gave done amid.
    let read = c.in_ok-goes_on.ensures in
    c.in_ok-pass_all.ensures.passed gave _ done
    (amid_read g.L.LineReader.reads gave _ _ c.args.self.now _ done refl read.read amid) read.end
