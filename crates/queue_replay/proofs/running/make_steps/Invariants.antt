use Rattle.queue_replay.specs.Counting.{page_draft_view}
use Rattle.queue_replay.proofs.Replays.{IsRunning}
use Rattle.queue_replay.proofs.running.make_steps.Given as goal
use Rattle.processor_stream.specs.Stream.{stream_view}

abbrev pub invariant-loop-left : goal.invariant-loop-left
invariant-loop-left l =
    IsRunning (stream_view l.stream) l.knobs l.fn.state.made
    (page_draft_view l.fn.state.draft) l.fn.steps l.left l.state

abbrev pub decreases-loop-left : goal.decreases-loop-left
decreases-loop-left l = l.left
