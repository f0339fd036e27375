-- What was read so far comes to the lines that were passed on, and the input goes on as was said.
use Rattle.std.proofs.Common.{◌≡◌, ◌<◌, ◌+◌, ℕ, List, Option, false, not}
use Rattle.std.specs.Io.KnownBytes.{IsAtEnd}
use Rattle.input_blocks.specs.Blocks.{ComesTo, IsAmid}
use Rattle.input_blocks.proofs.line_blocks.LineBlocks.next_some.Given as goal

abbrev pub invariant-loop-goes_on : goal.invariant-loop-goes_on
invariant-loop-goes_on g l =
    let feed = g.F.Feed in
    let reads = g.L.LineReader.reads in
    record {
      counted : feed.calls l.feed ≡ l.self.source.reads;
      ended : feed.has_ended l.feed ≡ not l.goes_on;
      told : feed.has_ended l.feed ≡ l.self.source.ended;
      heard : feed.has_failed l.feed ≡ feed.has_failed l.fn.feed;
      read_on : l.fn.self.source.reads < l.self.source.reads;
      so_far : l.self.source.reads + l.left ≡ l.fn.self.source.reads + 1 + l.fn.most;
      left : 0 < l.fn.most → 0 < l.left;
      at_end : l.goes_on ≡ false → IsAtEnd (feed.left l.feed);
      passed : (gave : Option (List ℕ)) (done : List ℕ) → IsAmid reads gave (feed.left l.fn.feed) l.fn.self done
          → ComesTo reads l.fn.reader l.reader gave (feed.left l.feed) l.self done l.goes_on;
    }

abbrev pub decreases-loop-goes_on : goal.decreases-loop-goes_on
decreases-loop-goes_on g l = l.left
