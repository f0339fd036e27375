-- What was written, what the text has and the lines of the tallies to come are the whole, and the text has room.
use Rattle.std.proofs.Common.{◌≡◌, ◌≤◌, ◌++◌, List, ℕ, drop, string_bytes, string_capacity}
use Rattle.std.specs.Io.KnownBytes.{Appends}
use Rattle.audit_report.specs.Report.{tally_lines}
use Rattle.audit_report.proofs.pieces.write_tallies.Given as goal

abbrev pub invariant-loop-tally : goal.invariant-loop-tally
invariant-loop-tally g l =
    let sink = g.S.Sink in
    record {
      done : List ℕ;
      split : string_bytes l.fn.text ++ tally_lines l.fn.tallies
          ≡ done ++ (string_bytes l.text ++ tally_lines (drop l.tally-index l.tallies));
      taken : Appends (sink.taken l.fn.out) (sink.taken l.out) done;
      heard : sink.has_failed l.out ≡ sink.has_failed l.fn.out;
      room : 160 ≤ string_capacity l.text;
    }
