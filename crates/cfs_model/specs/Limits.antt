-- The limits of the profile, each once. The greatest pid is the kernel's limit of pids on 64-bit machines, and the idle
-- task's pid is its own; the others are this project's profile.
use Rattle.std.specs.Prelude.{ℕ, ◌^◌}

-- the greatest virtual runtime and the greatest floor, in virtual nanoseconds; the least is its negation
abbrev pub greatest_runtime : ℕ
greatest_runtime = 2 ^ 62

-- the greatest pid of a task; the least is 1
abbrev pub greatest_pid : ℕ
greatest_pid = 4194304

-- the pid of each processor's idle task, which no task has
abbrev pub idle_pid : ℕ
idle_pid = 0

-- the most processors of a machine
abbrev pub most_processors : ℕ
most_processors = 64

-- the greatest number of a processor that a trace may name, from 0
abbrev pub greatest_processor : ℕ
greatest_processor = 65535

-- the greatest number of a line, from 1
abbrev pub greatest_line : ℕ
greatest_line = 4294967295

-- stands in for the line of an event where there is none
abbrev pub no_line : ℕ
no_line = 0

-- the greatest whole seconds of a time
abbrev pub greatest_seconds : ℕ
greatest_seconds = 4294967295

-- the greatest value of a setting, in nanoseconds
abbrev pub greatest_setting : ℕ
greatest_setting = 1000000000000

-- nanoseconds in a second
abbrev pub nanoseconds_per_second : ℕ
nanoseconds_per_second = 1000000000
