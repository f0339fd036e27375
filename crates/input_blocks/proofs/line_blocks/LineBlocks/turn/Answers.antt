use Rattle.std.proofs.Common.{◌≡◌, Result, [], refl, subst}
use Rattle.std.specs.Prelude.{OnOk}
use Rattle.input_blocks.proofs.Coming.{amid_same}
use Rattle.input_blocks.proofs.Turning.{none_passed, swapped}
use Rattle.input_blocks.specs.Blocks.{filled}
use Rattle.input_blocks.proofs.line_blocks.LineBlocks.turn.Goals as goal

pub returns-else-not-goes_on-clause-passed : goal.returns-else-not-goes_on-clause-passed
returns-else-not-goes_on-clause-passed g c = λ gave left done amid end.
    let reads = g.L.LineReader.reads in
    let old = c.args.self.now in
    let none = subst (λ (r : Result _ _). OnOk r (filled old.passing.ahead ≡ [])) c.in_ok-passed.was c.requires in
    let same = swapped old.passing.ahead old.source.block c.swap.new.x c.swap.new.y c.swap.ensures.x_after
    c.swap.ensures.y_after none in
    none_passed reads c.lines_after_whole.ensures g.met.L.LineReader.reads_on gave left _ done old.source.bounded
    old.source.small c.args.reader.now g.met.L.LineReader.reads_none
    (amid_same reads gave left old _ done refl same refl refl amid) _ c.if-not-goes_on.false
