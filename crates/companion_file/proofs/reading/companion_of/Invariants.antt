use Rattle.std.proofs.Common.{length}
use Rattle.companion_file.proofs.Reaching.{IsReadUpTo}
use Rattle.companion_file.proofs.reading.companion_of.Given as goal

abbrev pub invariant-loop-rest : goal.invariant-loop-rest
invariant-loop-rest l = IsReadUpTo l.text l.rest l.number l.draft

abbrev pub decreases-loop-rest : goal.decreases-loop-rest
decreases-loop-rest l = length l.rest
