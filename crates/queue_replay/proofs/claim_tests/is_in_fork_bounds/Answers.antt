use Rattle.std.proofs.Common.{arith}
use Rattle.std.proofs.lemmas.Int.{ints}
use Rattle.queue_replay.proofs.claim_tests.is_in_fork_bounds.Goals as goal

pub returns : goal.returns
returns c = (λ h. (grind (arith, ints, c.if-claim-floor.false), grind (arith, ints)), λ h. grind (arith, ints, h.1))
