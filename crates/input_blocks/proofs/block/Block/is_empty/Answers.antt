use Rattle.std.proofs.Common.{◌==◌, ap, arith, sym}
use Rattle.std.proofs.lemmas.List.{length-take-le}
use Rattle.input_blocks.proofs.block.Block.is_empty.Goals as goal

pub returns : goal.returns
returns c =
    let block = c.args.self.now in
    ap (λ n. n == 0) (sym (length-take-le block.length block.bytes.items
    (omega (arith, block.within, block.bytes.ok.0))))
