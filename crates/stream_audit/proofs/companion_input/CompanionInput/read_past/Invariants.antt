-- What was read so far stands behind what was read before the call, and a read is made each time.
use Rattle.std.proofs.Common.{ℕ, ◌-◌, List, Option}
use Rattle.audit_input.specs.Known.{most_reads}
use Rattle.companion_file.specs.Earlier.{Said}
use Rattle.stream_audit.specs.Companion.{IsCompanionAt, IsFedBy, SaysOn}
use Rattle.stream_audit.proofs.companion_input.CompanionInput.read_past.Given as goal

abbrev pub invariant-loop-self : goal.invariant-loop-self
invariant-loop-self g l =
    let feed = g.C.Feed in
    record {
      fed : IsFedBy (feed.calls l.feed) (feed.has_ended l.feed) (feed.has_failed l.feed) l.self;
      read : (gave : Option (List ℕ)) (said : Said) (edge : ℕ)
          → IsCompanionAt gave (feed.left l.initial.feed) l.initial.self said edge
          → SaysOn gave (feed.left l.feed) l.initial.self l.self said edge;
    }

abbrev pub decreases-loop-self : goal.decreases-loop-self
decreases-loop-self g l = most_reads - l.self.blocks.source.reads
