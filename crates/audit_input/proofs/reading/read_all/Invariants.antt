-- What is filled was consumed, a call a turn, and none has failed or ended.
use Rattle.std.proofs.Common.{◌≡◌, ◌≤◌, false, take, vec_len}
use Rattle.std.specs.Io.KnownBytes.{Consumes}
use Rattle.audit_input.proofs.reading.read_all.Given as goal

abbrev pub invariant-loop : goal.invariant-loop
invariant-loop g l =
    let feed = g.F.Feed in
    record {
      within : l.filled ≤ vec_len l.bytes;
      counted : feed.calls l.feed ≡ l.counter;
      heard : feed.has_failed l.feed ≡ false;
      unended : feed.has_ended l.feed ≡ false;
      read : Consumes (feed.left l.initial.feed) (feed.left l.feed) (take l.filled l.bytes.items);
    }
