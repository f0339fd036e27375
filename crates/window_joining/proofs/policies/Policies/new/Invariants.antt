use Rattle.std.proofs.Common.{◌≡◌, ℕ, take}
use Rattle.std.specs.BTreeSet.{contains}
use Rattle.std.specs.Ordering.{nat_cmp}
use Rattle.cfs_model.specs.Claimed.{is_named_idle}
use Rattle.cfs_model.specs.Limits.{no_line}
use Rattle.window_joining.proofs.policies.Policies.new.Given as goal

abbrev pub invariant-loop-named : goal.invariant-loop-named
invariant-loop-named l =
    (pid : ℕ) → contains nat_cmp l.idle pid ≡ is_named_idle (take l.named-index l.idles) no_line pid
