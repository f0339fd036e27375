use Rattle.std.proofs.Common.{arith}
use Rattle.std.proofs.lemmas.Int.{ints}
use Rattle.queue_replay.proofs.claim_tests.reaches_credit.Goals as goal

pub returns : goal.returns
returns c = (λ h. grind (arith, ints), λ h. grind (arith, ints, h))
