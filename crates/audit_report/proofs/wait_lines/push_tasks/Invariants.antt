-- What the text has, with the tasks that are still to be gone over, is the whole.
use Rattle.std.proofs.Common.{◌≡◌, ◌++◌, string_bytes, drop}
use Rattle.audit_report.specs.WaitLines.{task_lines}
use Rattle.audit_report.proofs.wait_lines.push_tasks.Given as goal

abbrev pub invariant-loop-task : goal.invariant-loop-task
invariant-loop-task l =
    string_bytes l.text ++ task_lines (drop l.task-index l.waits) ≡ string_bytes l.fn.text ++ task_lines l.fn.waits
