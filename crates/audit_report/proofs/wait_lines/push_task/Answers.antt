use Rattle.std.proofs.Common.{◌++◌, string_bytes, []}
use Rattle.audit_report.proofs.Written.{behind}
use Rattle.audit_report.specs.Report.{line_of}
use Rattle.audit_report.specs.WaitLines.{own_words, task_words}
use Rattle.audit_report.proofs.wait_lines.push_task.Goals as goal

pub returns : goal.returns
returns c =
    let end = string_bytes c.writeln.new.self in
    let words = own_words c.args.task.now.longest in
    behind (string_bytes c.args.text.now) (string_bytes c.write.new.self) end
    (task_words c.args.task.now) (words ++ line_of []) c.in_ok-write.ensures.bytes
    (behind (string_bytes c.write.new.self) (string_bytes c.push_own.new.text) end words (line_of [])
    c.in_ok-push_own.ensures c.in_ok-writeln.ensures.bytes)
