use Rattle.input_blocks.proofs.ReadBehind.{read_behind}
use Rattle.std.proofs.Common.{refl}
use Rattle.input_blocks.proofs.block.Block.read.Goals as goal

pub returns-clause-read : goal.returns-clause-read
returns-clause-read g c =
    let read = c.in_ok-count.ensures in
    read_behind _ _ c.args.self.now _ c.in_ok-count.count refl read.front read.read
