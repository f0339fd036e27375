use Rattle.std.proofs.Common.{true, false}
use Rattle.std.specs.BTreeSet.{contains}
use Rattle.std.specs.Ordering.{nat_cmp}
use Rattle.window_joining.proofs.Idle.{put_policy}
use Rattle.window_joining.proofs.policies.Policies.put.Goals as goal

pub returns-in_ok-insert : goal.returns-in_ok-insert
returns-in_ok-insert c = λ q.
    rw c.if-is_idle.true
    (put_policy (contains nat_cmp c.args.self.now.idle) (contains nat_cmp c.insert.new.self) c.args.pid true
    c.in_ok-insert.ensures.updates.0 q)

pub returns-else-is_idle : goal.returns-else-is_idle
returns-else-is_idle c = λ q.
    rw c.if-is_idle.false
    (put_policy (contains nat_cmp c.args.self.now.idle) (contains nat_cmp c.remove.new.self) c.args.pid false
    c.remove.ensures.updates.0 q)
