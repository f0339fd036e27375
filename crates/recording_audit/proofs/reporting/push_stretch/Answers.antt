use Rattle.std.proofs.Common.{◌++◌, string_bytes}
use Rattle.audit_report.specs.Report.{line_of, told_settings}
use Rattle.recording_audit.proofs.Written.{behind}
use Rattle.recording_audit.specs.Report.{stretch_words, values_words, words_of_settings}
use Rattle.recording_audit.proofs.reporting.push_stretch.Goals as goal

pub returns : goal.returns
returns c =
    let end = string_bytes c.push_values.new.text in
    let stretch = c.args.stretch.now in
    let words = words_of_settings stretch.least (told_settings stretch.tells_charges) in
    let last = line_of (values_words stretch.tells_charges) in
    behind (string_bytes c.args.text.now) (string_bytes c.push_where.new.text) end
    (stretch_words c.args.number c.args.first c.args.last stretch) (words ++ last) c.in_ok-push_where.ensures
    (behind (string_bytes c.push_where.new.text) (string_bytes c.push_settings.new.text) end words last
    c.in_ok-push_settings.ensures c.in_ok-push_values.ensures)
