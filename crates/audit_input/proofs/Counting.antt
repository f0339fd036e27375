-- Calls are counted exactly below the greatest count.
use Rattle.std.proofs.Common.{◌≡◌, ℕ, ◌+◌, ◌<◌, ◌^◌, arith}
use Rattle.audit_input.specs.Known.{one_more}

pub one_more-below : (calls counter : ℕ) → calls ≡ counter → counter < 2 ^ 32 → one_more calls ≡ counter + 1
one_more-below calls counter same below = omega arith
