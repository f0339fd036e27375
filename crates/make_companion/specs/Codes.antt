-- The program's exit statuses (this project's format; those of `sched_audit`).
use Rattle.std.specs.Prelude.{ℕ}
use Rattle.make_companion.specs.declared.ending.Ending.{Ending}
use Rattle.make_companion.specs.declared.ending.Ending.TheVariants.{
  Told,
  Refused,
  Unread,
  DebugUnread,
  Unwritten,
  Memory,
  Misused,
}

-- a companion, help and the version are 0, a refused trace is 2, an end that fails is 3, want of memory is 4, and any
-- other command line is 5
abbrev pub code_of_ending : Ending → ℕ
code_of_ending Told = 0
code_of_ending Refused = 2
code_of_ending Unread = 3
code_of_ending DebugUnread = 3
code_of_ending Unwritten = 3
code_of_ending Memory = 4
code_of_ending Misused = 5
