-- What running costs in virtual runtime (sched-design-CFS.rst: a task's virtual runtime grows with the time that
-- it ran, scaled by its weight; rounding down and the greatest value are this project's profile).
use Rattle.std.specs.Prelude.{ℕ, ◌*◌, ◌/◌, ℤ, pos, neg_ℤ, ◌≤ℤ◌}
use Rattle.cfs_model.specs.Limits.{greatest_runtime}
pub use Rattle.cfs_model.specs.Limits.{greatest_runtime as greatest}

-- the virtual nanoseconds that delta nanoseconds of running cost at a weight
abbrev pub charge_of : ℕ → ℕ → ℕ
charge_of delta weight = delta * 1024 / weight

-- a virtual runtime or a floor is in range
abbrev pub IsInRange : ℤ → Type 0
IsInRange v = (neg_ℤ (pos greatest_runtime) ≤ℤ v) × (v ≤ℤ pos greatest_runtime)
