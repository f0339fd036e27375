-- The last read gave so many bytes; what was consumed so far lies behind what was before the call.
use Rattle.std.proofs.Common.{◌≡◌, ◌==◌, ◌-◌, ◌≤◌, ◌++◌, List, ℕ, Option}
use Rattle.std.specs.Io.KnownBytes.{Consumes, IsAtEnd}
use Rattle.audit_input.specs.Known.{most_reads}
use Rattle.input_blocks.proofs.block_source.BlockSource.drain.Given as goal

abbrev pub invariant-loop-count : goal.invariant-loop-count
invariant-loop-count g l =
    let feed = g.F.Feed in
    record {
      counted : feed.calls l.feed ≡ l.self.reads;
      ended : feed.has_ended l.feed ≡ (l.count == 0);
      at_end : l.count ≡ 0 → IsAtEnd (feed.left l.feed);
      heard : feed.has_failed l.feed ≡ feed.has_failed l.fn.feed;
      never_fewer : l.fn.self.reads ≤ l.self.reads;
      came : (gave : Option (List ℕ)) (done : List ℕ) → Consumes gave (feed.left l.fn.feed) done
          → (more : List ℕ) × Consumes gave (feed.left l.feed) (done ++ more);
    }

abbrev pub decreases-loop-count : goal.decreases-loop-count
decreases-loop-count g l = most_reads - l.self.reads
