-- What is left gets shorter.
use Rattle.std.proofs.Common.{length}
use Rattle.recording_audit.proofs.scanning.last_start.Given as goal

abbrev pub decreases-loop-rest : goal.decreases-loop-rest
decreases-loop-rest l = length l.rest
