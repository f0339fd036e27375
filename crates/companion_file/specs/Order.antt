-- The order that each companion keeps (this project's companion format).
use Rattle.std.specs.Prelude.{◌≡◌, ℕ, ◌+◌, ◌*◌, ◌<◌, ◌≤◌, length, All, AllPairs}
use Rattle.cfs_model.specs.declared.task.Task.{Task}
use Rattle.cfs_model.specs.declared.claim.Claim.{Claim}
use Rattle.cfs_model.specs.declared.charge_line.ChargeLine.{ChargeLine}
use Rattle.cfs_model.specs.declared.nice_line.NiceLine.{NiceLine}
use Rattle.cfs_model.specs.declared.idle_line.IdleLine.{IdleLine}
use Rattle.cfs_model.specs.Limits.{greatest_pid, greatest_line, no_line, most_processors, greatest_seconds}
use Rattle.cfs_model.specs.Limits.{nanoseconds_per_second}
use Rattle.cfs_model.specs.Charge.{IsInRange}
use Rattle.cfs_model.specs.Nice.{IsNice}
use Rattle.cfs_model.specs.Order.{RunApart}
use Rattle.cfs_model.specs.Claimed.{named_policy}
use Rattle.cfs_model.specs.Start.{policies_at_start}
use Rattle.companion_file.specs.Companion.{CompanionView}

-- a pid is from 1 to the greatest
abbrev pub IsPid : ℕ → Type 0
IsPid n = (1 ≤ n) × (n ≤ greatest_pid)

-- a task's numbers are within their limits
pub record IsTaskInLimits (cpus : ℕ) (task : Task) : Type 0 where
  pub pid : IsPid task.pid
  pub nice : IsNice task.nice
  pub cpu : task.cpu < cpus
  pub v : IsInRange task.v

-- a claim's numbers are within their limits
pub record IsClaimInLimits (claim : Claim) : Type 0 where
  pub line : (1 ≤ claim.line) × (claim.line ≤ greatest_line)
  pub pid : IsPid claim.pid
  pub v : IsInRange claim.v

-- the numbers of a change of a nice value are within their limits
pub record IsNiceLineInLimits (change : NiceLine) : Type 0 where
  pub line : (1 ≤ change.line) × (change.line ≤ greatest_line)
  pub pid : IsPid change.pid
  pub nice : IsNice change.nice

-- the numbers of a charge that is told are within their limits
pub record IsChargeLineInLimits (charge : ChargeLine) : Type 0 where
  pub line : (1 ≤ charge.line) × (charge.line ≤ greatest_line)
  pub pid : IsPid charge.pid
  pub v : IsInRange charge.v

-- the numbers of an idle line are within their limits
pub record IsIdleLineInLimits (idle : IdleLine) : Type 0 where
  pub line : idle.line ≤ greatest_line
  pub pid : IsPid idle.pid

-- an idle line may stand behind another: its line is above the other's, or it is the same and the pid is above
pub record IdleRises (a b : IdleLine) : Type 0 where
  pub lines : a.line ≤ b.line
  pub pids : a.line ≡ b.line → a.pid < b.pid

-- what every companion keeps
pub record IsCompanionInOrder (r : CompanionView) : Type 0 where
  pub cpus_in_limits : (1 ≤ r.cpus) × (r.cpus ≤ most_processors)
  pub start_in_limits : r.start < (greatest_seconds + 1) * nanoseconds_per_second
  pub floor_for_each_cpu : length r.floors ≡ r.cpus
  pub floors_in_limits : All IsInRange r.floors
  pub tasks_in_limits : All (IsTaskInLimits r.cpus) r.tasks
  pub pids_rise : AllPairs (λ t u. t.pid < u.pid) r.tasks
  pub one_runs_a_cpu : AllPairs RunApart r.tasks
  pub claims_in_limits : All IsClaimInLimits r.claims
  pub lines_rise : AllPairs (λ a b. a.line < b.line) r.claims
  pub nices_in_limits : All IsNiceLineInLimits r.nices
  pub nice_lines_rise : AllPairs (λ a b. a.line < b.line) r.nices
  pub idles_in_limits : All IsIdleLineInLimits r.idles
  pub idles_rise : AllPairs IdleRises r.idles
  pub charges_in_limits : All IsChargeLineInLimits r.charges
  pub charge_lines_rise : AllPairs (λ a b. a.line < b.line) r.charges
  pub policies_told : (pid : ℕ) → named_policy r.idles no_line pid ≡ policies_at_start r.tasks pid
