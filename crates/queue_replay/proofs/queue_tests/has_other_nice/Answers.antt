use Rattle.std.proofs.Common.{◌≢◌, ◌↔◌, IsTrue, rules}
use Rattle.queue_replay.proofs.Answered.{entity_told, other_nice}
use Rattle.queue_replay.proofs.queue_tests.has_other_nice.Goals as goal

pub returns-in-Some : goal.returns-in-Some
returns-in-Some c part pid e =
    let other : IsTrue c.ne.result ↔ (c.in-Some.task.nice ≢ c.args.nice) = search rules in
    other_nice part pid c.in-Some.task c.args.nice c.ne.result
    (entity_told c.args.task c.in-Some.task _ c.in-Some.is e) other
