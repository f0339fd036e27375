use Rattle.std.proofs.Common.{◌≡◌, true, false, Some, is_some, inl, inr, refl, ap, rules}
use Rattle.runqueue.specs.Queue.{runqueue_view}
use Rattle.queue_replay.proofs.Answered.{busy, idles}
use Rattle.queue_replay.proofs.replay_state.since_after.Goals as goal

pub returns-then-is_some : goal.returns-then-is_some
returns-then-is_some c =
    let some : is_some c.runner.result ≡ true = search rules in
    inr (busy (runqueue_view c.args.queue.now) c.runner.result c.runner.ensures some, refl)

pub returns-in-Some : goal.returns-in-Some
returns-in-Some c =
    let none : is_some c.runner.result ≡ false = search rules in
    inl (
      idles (runqueue_view c.args.queue.now) c.runner.result _ c.runner.ensures none c.in-Some.ensures,
      ap Some
          c.unwrap_or.ensures,
    )
