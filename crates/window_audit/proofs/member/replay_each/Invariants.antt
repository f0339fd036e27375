use Rattle.std.proofs.Common.{take}
use Rattle.queue_replay.specs.Windowed.{GoesThrough, windowed_view}
use Rattle.replay_model.specs.Cut.{steps_at}
use Rattle.sched_record.specs.Window.{window_view}
use Rattle.window_audit.proofs.member.replay_each.Given as goal

abbrev pub invariant-loop-index : goal.invariant-loop-index
invariant-loop-index l =
    let before = windowed_view l.fn.replay in
    GoesThrough before (take l.index-index (steps_at before.cpu (window_view l.window))) (windowed_view l.replay)
