-- With so many events as are left, the text has so many in all.
use Rattle.std.proofs.Common.{ℕ, ◌+◌, ◌≤◌, length}
use Rattle.text_parts.specs.Lines.{lines_of}
use Rattle.recording_audit.specs.Causes.{HaveEvents}
use Rattle.recording_audit.proofs.scanning.event_count.Given as goal

abbrev pub invariant-loop-rest : goal.invariant-loop-rest
invariant-loop-rest l = record {
  whole : (left : ℕ) → HaveEvents (lines_of l.rest) left → HaveEvents (lines_of l.text) (l.count + left);
  within : l.count + length l.rest ≤ length l.text;
}

abbrev pub decreases-loop-rest : goal.decreases-loop-rest
decreases-loop-rest l = length l.rest
