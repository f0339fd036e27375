-- The policies as joining holds them (this project's profile).
use Rattle.std.specs.Prelude.{◌≡◌, ℕ}
use Rattle.std.specs.BTreeSet.{contains}
use Rattle.std.specs.Ordering.{nat_cmp}
use Rattle.cfs_model.specs.Claimed.{policy_by}
use Rattle.cfs_model.specs.declared.policy.Policy.{Policy}
use Rattle.cfs_model.specs.declared.policy.Policy.TheVariants.{Normal}
use Rattle.window_joining.specs.declared.policies.Policies.{Policies}

-- the set as a function: the policy of each task
abbrev pub policies_view : Policies → ℕ → Policy
policies_view policies pid = policy_by (contains nat_cmp policies.idle pid)

-- nobody is of the idle policy
abbrev pub AreUsual : Policies → Type 0
AreUsual policies = (pid : ℕ) → policies_view policies pid ≡ Normal
