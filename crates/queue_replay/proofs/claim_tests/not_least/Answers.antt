use Rattle.std.proofs.Common.{arith}
use Rattle.queue_replay.proofs.Needed.{in_lead, over_lead}
use Rattle.queue_replay.proofs.claim_tests.not_least.Goals as goal

pub returns-then-granularity-lead : goal.returns-then-granularity-lead
returns-then-granularity-lead c own part h =
    over_lead c.args.granularity c.args.next c.args.lead own part c.if-granularity-lead.true h

pub returns-else-granularity-lead : goal.returns-else-granularity-lead
returns-else-granularity-lead c own part h =
    in_lead c.args.granularity c.args.next c.args.lead own part (omega (arith, c.if-granularity-lead.false)) h
