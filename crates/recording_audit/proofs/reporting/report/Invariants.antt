-- What the text has, with the lines of the parts that are still to be gone over, is the whole.
use Rattle.std.proofs.Common.{◌≡◌, ◌++◌, string_bytes, drop}
use Rattle.recording_audit.specs.Report.{lines_behind, report_lines}
use Rattle.recording_audit.proofs.reporting.report.Given as goal

abbrev pub invariant-loop-part : goal.invariant-loop-part
invariant-loop-part l =
    string_bytes l.text ++ lines_behind l.tally (drop l.part-index l.parts) ≡ report_lines l.fn.parts
