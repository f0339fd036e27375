-- All that came stands behind what was there before the call.
use Rattle.std.proofs.Common.{◌≡◌, ◌<◌, ◌+◌, false, not}
use Rattle.std.specs.Io.KnownBytes.{IsAtEnd}
use Rattle.input_blocks.specs.Blocks.{HasReadOn}
use Rattle.input_blocks.proofs.block_source.BlockSource.read_some.Given as goal

abbrev pub invariant-loop-goes_on : goal.invariant-loop-goes_on
invariant-loop-goes_on g l =
    let feed = g.F.Feed in
    record {
      counted : feed.calls l.feed ≡ l.self.reads;
      ended : feed.has_ended l.feed ≡ not l.goes_on;
      told : feed.has_ended l.feed ≡ l.self.ended;
      heard : feed.has_failed l.feed ≡ feed.has_failed l.fn.feed;
      read_on : l.fn.self.reads < l.self.reads;
      so_far : l.self.reads + l.left ≡ l.fn.self.reads + 1 + l.fn.most;
      left : 0 < l.fn.most → 0 < l.left;
      at_end : l.goes_on ≡ false → IsAtEnd (feed.left l.feed);
      read : HasReadOn (feed.left l.fn.feed) (feed.left l.feed) l.fn.self l.self;
    }

abbrev pub decreases-loop-goes_on : goal.decreases-loop-goes_on
decreases-loop-goes_on g l = l.left
