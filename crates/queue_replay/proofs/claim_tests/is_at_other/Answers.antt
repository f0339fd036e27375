use Rattle.std.proofs.Common.{◌≢◌, rules}
use Rattle.queue_replay.proofs.Answered.{entity_told, some_task}
use Rattle.queue_replay.proofs.claim_tests.is_at_other.Goals as goal

pub returns-in-Some : goal.returns-in-Some
returns-in-Some c part pid e =
    some_task part pid c.in-Some.task (λ s. c.args.claim.v ≢ s.runtime) _
    (entity_told c.args.task c.in-Some.task _ c.in-Some.is e) (search rules)
