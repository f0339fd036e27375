-- The lines of waits in a report (this project's format).
use Rattle.std.specs.Prelude.{ℕ, Option, Some, None, List, [], ◌++◌, codes, decimal, map}
use Rattle.std.specs.List.{concat}
use Rattle.audit_report.specs.Report.{line_of}
use Rattle.waiting_times.specs.Longest.{longest_of}
use Rattle.waiting_times.specs.Waits.{duration}
use Rattle.waiting_times.specs.declared.longest_wait.LongestWait.{LongestWait}
use Rattle.waiting_times.specs.declared.task_waits.TaskWaits.{TaskWaits}
use Rattle.waiting_times.specs.declared.wait.Wait.{Wait}

-- where a wait began: at an event's line, or with the recording
abbrev pub from_words : Option ℕ → List ℕ
from_words None = codes " from start"
from_words (Some line) = codes " from line " ++ decimal line

-- where it ended
abbrev pub to_words : Option ℕ → List ℕ
to_words None = codes " to end"
to_words (Some line) = codes " to line " ++ decimal line

-- how long a wait was, in nanoseconds, and where it began and ended
abbrev pub wait_words : Wait → List ℕ
wait_words wait = decimal (duration wait) ++ (from_words wait.from.line ++ to_words wait.to.line)

-- the longest wait of a task
abbrev pub own_wait_words : Wait → List ℕ
own_wait_words wait = codes " longest " ++ wait_words wait

-- if it waited
abbrev pub own_words : Option Wait → List ℕ
own_words None = []
own_words (Some wait) = own_wait_words wait

-- how often a task waited, and how long in all
abbrev pub task_words : TaskWaits → List ℕ
task_words task =
    codes "waits " ++ (decimal task.pid ++ (codes " times " ++ (decimal task.times
    ++ (codes " total " ++ decimal task.total))))

-- that, and its longest wait
abbrev pub task_line : TaskWaits → List ℕ
task_line task = task_words task ++ (own_words task.longest ++ line_of [])

-- that of each task
abbrev pub task_lines : List TaskWaits → List ℕ
task_lines tasks = concat (map task_line tasks)

-- the longest wait of all tasks, by the task's pid
abbrev pub longest_words : ℕ → List ℕ
longest_words pid = codes "longest wait pid " ++ (decimal pid ++ codes " waited ")

abbrev pub longest_wait_line : LongestWait → List ℕ
longest_wait_line longest = longest_words longest.pid ++ (wait_words longest.wait ++ line_of [])

-- if one waited
abbrev pub longest_line : Option LongestWait → List ℕ
longest_line None = line_of (codes "longest wait none")
longest_line (Some longest) = longest_wait_line longest

-- the longest wait of all tasks, and then those of each
abbrev pub waits_lines : List TaskWaits → List ℕ
waits_lines tasks = longest_line (longest_of tasks) ++ task_lines tasks

-- where they are told
abbrev pub told_waits_lines : Option (List TaskWaits) → List ℕ
told_waits_lines None = []
told_waits_lines (Some tasks) = waits_lines tasks
