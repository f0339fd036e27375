-- What is known of the line before which the front ends.
use Rattle.recording_audit.specs.Causes.{IsKnown}
use Rattle.recording_audit.proofs.piece.piece_before.Given as goal

abbrev pub invariant-loop : goal.invariant-loop
invariant-loop g l = IsKnown l.text l.last l.cause
