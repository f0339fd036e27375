-- The exit statuses (this project's profile): those of the auditor.
use Rattle.std.specs.Prelude.{ℕ}
use Rattle.audit_recording.specs.declared.ending.Ending.{Ending}
use Rattle.audit_recording.specs.declared.ending.Ending.TheVariants as endings

-- what the program ends with
abbrev pub code_of_ending : Ending → ℕ
code_of_ending endings.Told = 0
code_of_ending endings.Over = 1
code_of_ending endings.Refused = 2
code_of_ending endings.Unread = 3
code_of_ending endings.DebugUnread = 3
code_of_ending endings.Unwritten = 3
code_of_ending endings.NotKept = 3
code_of_ending endings.Memory = 4
code_of_ending endings.Misused = 5
