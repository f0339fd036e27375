-- What a line says, as the reader has it, and when that stands for what the line spells.
use Rattle.companion_file.specs.declared.statement.Statement.{Statement}
use Rattle.companion_file.specs.declared.statement.Statement.TheVariants as statements
use Rattle.companion_file.specs.Shape.{Shape, version_line, cpus_line, start_line, floor_line, task_line, claim_line}
use Rattle.companion_file.specs.Shape.{nice_line, idle_line, charge_line}
use Rattle.cfs_model.specs.declared.policy.Policy.TheVariants.{Normal}

-- the shape that a statement has
abbrev pub stated : Statement → Shape
stated statements.Version = version_line 0
stated (statements.Cpus count) = cpus_line count
stated (statements.Start time) = start_line time.seconds time.nanoseconds
stated (statements.Floor cpu floor) = floor_line cpu floor
stated (statements.Task pid nice cpu place v) = task_line
    (record { pid = pid; nice = nice; policy = Normal; cpu = cpu; place = place; v = v })
stated (statements.Claim line pid v sort) = claim_line (record { line = line; pid = pid; v = v; sort = sort })
stated (statements.Nice line pid nice) = nice_line (record { line = line; pid = pid; nice = nice })
stated (statements.Idle line pid) = idle_line (record { line = line; pid = pid })
stated (statements.Charge line pid v) = charge_line (record { line = line; pid = pid; v = v })
