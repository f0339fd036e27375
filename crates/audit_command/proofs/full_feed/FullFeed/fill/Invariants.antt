-- The bytes that came so far were consumed, and more may come.
use Rattle.std.proofs.Common.{◌≡◌, ◌-◌, ◌≤◌, length, take}
use Rattle.std.specs.Io.KnownBytes.{Consumes}
use Rattle.audit_command.specs.declared.full_feed.Behind.TheVariants.{More}
use Rattle.audit_command.proofs.full_feed.FullFeed.fill.Given as goal

abbrev pub invariant-loop-filled : goal.invariant-loop-filled
invariant-loop-filled g l =
    let left = g.F.Feed.left in
    record {
      within : l.filled ≤ length l.buf;
      length : length l.buf ≡ length l.initial.buf;
      bytes : Consumes (left l.fn.self.feed) (left l.self.feed) (take l.filled l.buf);
      behind : l.self.behind ≡ More;
      calls : l.self.calls ≡ l.fn.self.calls;
      failed : l.self.has_failed ≡ l.fn.self.has_failed;
      ended : l.self.has_ended ≡ l.fn.self.has_ended;
    }

abbrev pub decreases-loop-filled : goal.decreases-loop-filled
decreases-loop-filled g l = length l.initial.buf - l.filled
