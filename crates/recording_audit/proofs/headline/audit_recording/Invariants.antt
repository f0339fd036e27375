-- The parts so far, and then the rest, are the text; it is known which number the next line has, and what of it.
use Rattle.std.proofs.Common.{length}
use Rattle.recording_audit.proofs.Grown.{IsGrown}
use Rattle.recording_audit.proofs.headline.audit_recording.Given as goal

abbrev pub invariant-loop-rest : goal.invariant-loop-rest
invariant-loop-rest g l = IsGrown l.asked.limits l.asked.least_events l.text l.parts.items l.rest l.number l.known

abbrev pub decreases-loop-rest : goal.decreases-loop-rest
decreases-loop-rest g l = length l.rest
