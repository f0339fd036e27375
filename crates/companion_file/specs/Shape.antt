-- What a line of a companion says (this project's companion format).
use Rattle.std.specs.Prelude.{ℕ, ℤ}
use Rattle.cfs_model.specs.declared.task.Task.{Task}
use Rattle.cfs_model.specs.declared.claim.Claim.{Claim}
use Rattle.cfs_model.specs.declared.nice_line.NiceLine.{NiceLine}
use Rattle.cfs_model.specs.declared.charge_line.ChargeLine.{ChargeLine}
use Rattle.cfs_model.specs.declared.idle_line.IdleLine.{IdleLine}

-- what a line that is no comment says, its numbers as they are spelled, within their limits or not
pub data Shape : Type 0 where
  -- the format's version
  version_line : ℕ → Shape
  -- the number of processors
  cpus_line : ℕ → Shape
  -- the start in seconds, and the nanoseconds after them
  start_line : ℕ → ℕ → Shape
  -- a processor and its floor
  floor_line : ℕ → ℤ → Shape
  -- a task of the start state; its line tells no policy
  task_line : Task → Shape
  -- a virtual runtime claimed at a line of the trace
  claim_line : Claim → Shape
  -- a change of a task's nice value at a line of the trace
  nice_line : NiceLine → Shape
  -- a task that is of the idle policy from the start, or from its birth at a line of the trace on
  idle_line : IdleLine → Shape
  -- a charge that is told at a line of the trace
  charge_line : ChargeLine → Shape
