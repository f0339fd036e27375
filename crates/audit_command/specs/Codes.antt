-- The program's exit statuses (this project's format).
use Rattle.std.specs.Prelude.{ℕ}
use Rattle.audit_input.specs.Codes.{code_of_fault}
use Rattle.audit_report.specs.Codes.{code_of_status}
use Rattle.audit_command.specs.declared.ending.Ending.{Ending}
use Rattle.audit_command.specs.declared.ending.Ending.TheVariants.{
  Answered,
  Failed,
  StatesUnwritten,
  Told,
  Misused,
}

-- a report's is its status', a failure's its fault's, states that can't be written are 3, help is 0, and any other
-- command line is 5
abbrev pub code_of_ending : Ending → ℕ
code_of_ending (Answered status) = code_of_status status
code_of_ending (Failed fault) = code_of_fault fault
code_of_ending StatesUnwritten = 3
code_of_ending Told = 0
code_of_ending Misused = 5
