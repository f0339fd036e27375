-- What the text has, with the bytes that are still to be gone over, is the whole.
use Rattle.std.proofs.Common.{◌≡◌, ◌++◌, string_bytes, drop}
use Rattle.recording_audit.specs.Report.{shown_name}
use Rattle.recording_audit.proofs.escaping.push_name.Given as goal

abbrev pub invariant-loop-byte : goal.invariant-loop-byte
invariant-loop-byte l =
    string_bytes l.text ++ shown_name (drop l.byte-index l.name) ≡ string_bytes l.fn.text ++ shown_name l.fn.name
