-- What is known of the line that was found last.
use Rattle.recording_audit.specs.Causes.{IsKnown}
use Rattle.recording_audit.proofs.breach.Breach.of.Given as goal

abbrev pub invariant-loop : goal.invariant-loop
invariant-loop g l = IsKnown l.text l.breach.line l.breach.cause
