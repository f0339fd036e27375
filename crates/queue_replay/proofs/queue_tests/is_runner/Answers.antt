use Rattle.std.proofs.Common.{◌≡◌, is_none, rules}
use Rattle.runqueue.specs.Queue.{runqueue_view}
use Rattle.queue_replay.proofs.Answered.{is_runner, task_runs}
use Rattle.queue_replay.proofs.queue_tests.is_runner.Goals as goal

pub returns-then-pid-eq-IDLE_PID : goal.returns-then-pid-eq-IDLE_PID
returns-then-pid-eq-IDLE_PID c =
    let same : c.is_none.result ≡ is_none c.runner.result = search rules in
    is_runner (runqueue_view c.args.queue.now) c.runner.result c.runner.ensures c.args.pid c.if-pid-eq-IDLE_PID.true
    c.is_none.result same

pub returns-else-pid-eq-IDLE_PID : goal.returns-else-pid-eq-IDLE_PID
returns-else-pid-eq-IDLE_PID c =
    let part = runqueue_view c.args.queue.now in
    task_runs part c.args.pid c.if-pid-eq-IDLE_PID.false c.stands_in.result
    (c.stands_in.ensures part c.args.pid (c.requires c.if-pid-eq-IDLE_PID.false))
