-- The lines of what was consumed so far were read, and more may come; no read has failed.
use Rattle.std.proofs.Common.{◌≡◌, ◌-◌, ℕ, List, false, not}
use Rattle.std.specs.Io.KnownBytes.{IsAtEnd}
use Rattle.audit_input.specs.Known.{most_reads}
use Rattle.text_parts.specs.Lines.{lines_of}
use Rattle.input_blocks.specs.Blocks.{IsThen}
use Rattle.input_blocks.proofs.to_end.read_to_end.Given as goal

abbrev pub invariant-loop-goes_on : goal.invariant-loop-goes_on
invariant-loop-goes_on g l =
    let feed = g.F.Feed in
    let reads = g.L.LineReader.reads in
    record {
      counted : feed.calls l.feed ≡ l.blocks.source.reads;
      ended : feed.has_ended l.feed ≡ not l.goes_on;
      heard : feed.has_failed l.feed ≡ false;
      at_end : l.goes_on ≡ false → IsAtEnd (feed.left l.feed);
      done : List ℕ;
      read : reads l.initial.reader l.reader (lines_of done);
      stands : IsThen reads (feed.left l.initial.feed) (feed.left l.feed) l.blocks done l.goes_on;
    }

abbrev pub decreases-loop-goes_on : goal.decreases-loop-goes_on
decreases-loop-goes_on g l = most_reads - l.blocks.source.reads
