-- What the text has, with the tallies that are still to be gone over, is the whole.
use Rattle.std.proofs.Common.{◌≡◌, ◌++◌, string_bytes, drop}
use Rattle.audit_report.specs.Report.{tally_lines}
use Rattle.audit_report.proofs.verdict.push_tallies.Given as goal

abbrev pub invariant-loop-tally : goal.invariant-loop-tally
invariant-loop-tally l =
    string_bytes l.text ++ tally_lines (drop l.tally-index l.tallies)
    ≡ string_bytes l.fn.text ++ tally_lines l.fn.tallies
