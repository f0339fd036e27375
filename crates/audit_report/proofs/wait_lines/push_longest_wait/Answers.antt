use Rattle.std.proofs.Common.{◌++◌, string_bytes, []}
use Rattle.audit_report.proofs.Written.{behind}
use Rattle.audit_report.specs.Report.{line_of}
use Rattle.audit_report.specs.WaitLines.{longest_words, wait_words}
use Rattle.audit_report.proofs.wait_lines.push_longest_wait.Goals as goal

pub returns : goal.returns
returns c =
    let end = string_bytes c.writeln.new.self in
    let words = wait_words c.args.longest.wait in
    behind (string_bytes c.args.text.now) (string_bytes c.write.new.self) end
    (longest_words c.args.longest.pid) (words ++ line_of []) c.in_ok-write.ensures.bytes
    (behind (string_bytes c.write.new.self) (string_bytes c.push_wait.new.text) end words (line_of [])
    c.in_ok-push_wait.ensures c.in_ok-writeln.ensures.bytes)
