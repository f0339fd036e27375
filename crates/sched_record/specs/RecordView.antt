-- A record: a trace and a companion, joined (this project's profile).
use Rattle.std.specs.Prelude.{ℕ, ℤ, List}
use Rattle.cfs_model.specs.declared.act.Entry.{Entry}
use Rattle.cfs_model.specs.declared.claim.Claim.{Claim}
use Rattle.cfs_model.specs.declared.idle_line.IdleLine.{IdleLine}
use Rattle.cfs_model.specs.declared.nice_line.NiceLine.{NiceLine}
use Rattle.cfs_model.specs.declared.charge_line.ChargeLine.{ChargeLine}
use Rattle.cfs_model.specs.declared.policy.Policy.{Policy}
use Rattle.cfs_model.specs.declared.task.Task.{Task}
use Rattle.cfs_model.specs.Claimed.{policy_in}
use Rattle.cfs_model.specs.Start.{policies_at_start}

-- a trace and a companion, joined
pub record RecordView : Type 0 where
  pub cpus : ℕ
  pub start : ℕ
  pub floors : List ℤ
  pub tasks : List Task
  pub events : List Entry
  pub claims : List Claim
  pub nices : List NiceLine
  pub idles : List IdleLine
  pub charges : List ChargeLine

-- the policy of the task that an event of the record bears or moves
abbrev pub policy_of : RecordView → Entry → Policy
policy_of r = policy_in r.idles (policies_at_start r.tasks) r.events
