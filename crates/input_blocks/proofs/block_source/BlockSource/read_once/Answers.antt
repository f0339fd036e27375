use Rattle.std.proofs.Common.{subst, sym}
use Rattle.input_blocks.proofs.ReadBehind.{read_one}
use Rattle.input_blocks.specs.Blocks.{IsReadBehind}
use Rattle.input_blocks.specs.declared.block.Block.{Block}
use Rattle.input_blocks.proofs.block_source.BlockSource.read_once.Goals as goal

pub returns-clause-read : goal.returns-clause-read
returns-clause-read g c =
    let read = c.in_ok-count.ensures in
    let note = c.note.ensures in
    let before = g.F.Feed.left c.args.feed.now in
    let after = g.F.Feed.left c.read.new.feed in
    read_one before after c.args.self.now c.note.new.self c.in_ok-count.count note.reads note.size read.few
    (subst (λ (b : Block). IsReadBehind before after c.args.self.now.block b c.in_ok-count.count) (sym note.block)
    read.read)
