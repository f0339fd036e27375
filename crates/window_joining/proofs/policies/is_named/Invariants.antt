use Rattle.std.proofs.Common.{◌≡◌, take, false}
use Rattle.cfs_model.specs.Claimed.{is_named_idle}
use Rattle.window_joining.proofs.policies.is_named.Given as goal

abbrev pub invariant-loop-idle : goal.invariant-loop-idle
invariant-loop-idle l = is_named_idle (take l.idle-index l.idles) l.line l.pid ≡ false
