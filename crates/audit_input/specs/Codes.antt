-- Exit statuses where nothing is reported (this project's format).
use Rattle.std.specs.Prelude.{ℕ}
use Rattle.audit_input.specs.declared.fault.Fault.{Fault}
use Rattle.audit_input.specs.declared.fault.Fault.TheVariants.{ReadTrace, ReadCompanion, Write, Memory}

-- an input or the output failed, and want of memory
abbrev pub code_of_fault : Fault → ℕ
code_of_fault ReadTrace = 3
code_of_fault ReadCompanion = 3
code_of_fault Write = 3
code_of_fault Memory = 4
