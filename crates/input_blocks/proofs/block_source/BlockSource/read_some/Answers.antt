use Rattle.std.proofs.Common.{◌∙◌, arith}
use Rattle.input_blocks.proofs.ReadBehind.{read_further}
use Rattle.input_blocks.proofs.block_source.BlockSource.read_some.Goals as goal

pub loop-goes_on-preserved : goal.loop-goes_on-preserved
loop-goes_on-preserved g c =
    let before = c.loop-goes_on.invariant in
    let next = c.in_ok-goes_on-2.ensures in
    record {
      counted = next.counted;
      ended = next.ended;
      told = next.told;
      heard = next.heard ∙ before.heard;
      read_on = (let earlier = before.read_on in let one = next.one_read in omega (arith, earlier, one));
      so_far = (let earlier = before.so_far in let one = next.one_read in let left = c.loop-goes_on-test.true in
          omega (arith, earlier, one, left));
      left = λ _. (let left = c.loop-goes_on-test.true in omega (arith, left));
      at_end = next.end;
      read = read_further _ _ _ c.args.self.now c.loop-goes_on.self _ before.read next.read;
    }
