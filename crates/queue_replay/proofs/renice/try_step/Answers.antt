use Rattle.runqueue.specs.Queue.{runqueue_view}
use Rattle.queue_replay.proofs.Renices.{deed_alone}
use Rattle.queue_replay.proofs.renice.try_step.Goals as goal

pub returns-in-None-clause-tried : goal.returns-in-None-clause-tried
returns-in-None-clause-tried c =
    deed_alone c.args.knobs.now c.args.cpu (runqueue_view c.args.queue.now) c.args.step.now
    (runqueue_view c.try_deed.new.queue) c.try_deed.result
    c.in-None.is c.try_deed.ensures.tried
