use Rattle.std.proofs.Common.{◌++◌, ◌∙◌, ap, decimal, string_bytes}
use Rattle.audit_report.proofs.Written.{behind}
use Rattle.audit_report.specs.WaitLines.{from_words, to_words}
use Rattle.waiting_times.specs.Waits.{duration}
use Rattle.audit_report.proofs.wait_lines.push_wait.Goals as goal

pub returns : goal.returns
returns c =
    let end = string_bytes c.push_to.new.text in
    let wait = c.args.wait in
    behind (string_bytes c.args.text.now) (string_bytes c.write.new.self) end
    (decimal (duration wait)) (from_words wait.from.line ++ to_words wait.to.line)
    (c.in_ok-write.ensures.bytes
    ∙ ap (λ n. string_bytes c.args.text.now ++ decimal n) c.duration-duration.ensures)
    (behind (string_bytes c.write.new.self) (string_bytes c.push_from.new.text) end (from_words wait.from.line)
    (to_words wait.to.line) c.in_ok-push_from.ensures c.in_ok-push_to.ensures)
