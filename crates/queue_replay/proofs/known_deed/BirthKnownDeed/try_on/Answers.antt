use Rattle.runqueue.specs.Queue.{runqueue_view}
use Rattle.queue_replay.proofs.Renices.{deed_alone}
use Rattle.queue_replay.proofs.known_deed.BirthKnownDeed.try_on.Goals as goal

pub returns-clause-tried : goal.returns-clause-tried
returns-clause-tried c =
    deed_alone c.args.knobs.now c.args.cpu (runqueue_view c.args.queue.now) c.args.step.now
    (runqueue_view c.try_birth.new.queue) c.try_birth.result c.requires.0 c.try_birth.ensures.tried
