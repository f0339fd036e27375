use Rattle.std.proofs.Common.{◌∙◌, ◌++◌, arith}
use Rattle.input_blocks.proofs.Coming.{comes_amid, comes_further}
use Rattle.input_blocks.proofs.line_blocks.LineBlocks.next_some.Goals as goal

pub loop-goes_on-preserved : goal.loop-goes_on-preserved
loop-goes_on-preserved g c =
    let before = c.loop-goes_on.invariant in
    let next = c.in_ok-goes_on-2.ensures in
    let reads = g.L.LineReader.reads in
    record {
      counted = next.counted;
      ended = next.ended;
      told = next.told;
      heard = next.heard ∙ before.heard;
      read_on = (let earlier = before.read_on in let one = next.one_read in omega (arith, earlier, one));
      so_far = (let earlier = before.so_far in let one = next.one_read in let left = c.loop-goes_on-test.true in
          omega (arith, earlier, one, left));
      left = λ _. (let left = c.loop-goes_on-test.true in omega (arith, left));
      at_end = next.end;
      passed = λ gave done amid.
          let one = comes_amid reads c.args.reader.now c.loop-goes_on.reader gave _ c.loop-goes_on.self done _
          c.loop-goes_on-test.true (before.passed gave done amid) in
          comes_further reads c.lines_after_whole.ensures g.met.L.LineReader.reads_on c.args.reader.now
          c.loop-goes_on.reader c.next-in-loop-goes_on.new.reader gave _ _ c.loop-goes_on.self
          c.next-in-loop-goes_on.new.self done _ amid.whole one
          (next.passed gave (done ++ one.more) one.next);
    }
