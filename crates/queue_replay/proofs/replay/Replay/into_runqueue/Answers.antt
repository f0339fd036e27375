use Rattle.std.proofs.Common.{subst}
use Rattle.queue_replay.specs.Made.{IsPartAfter}
use Rattle.queue_replay.specs.Replay.{ReplayView}
use Rattle.runqueue.specs.Queue.{runqueue_view}
use Rattle.queue_replay.proofs.replay.Replay.into_runqueue.Goals as goal

pub returns : goal.returns
returns c =
    let state = c.self.inside.state in
    let P : ReplayView → Type 0 = λ v. IsPartAfter v.stream v.knobs v.made (runqueue_view state.queue) state.since in
    (state.since, subst P c.self.view_is c.self.invariant.is_part)
