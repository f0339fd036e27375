use Rattle.queue_replay.specs.Counting.{page_draft_view}
use Rattle.queue_replay.proofs.Replays.{running_more}
use Rattle.queue_replay.proofs.running.make_steps.Goals as goal
use Rattle.processor_stream.specs.Stream.{stream_view}

pub loop-left-preserved : goal.loop-left-preserved
loop-left-preserved c =
    let old = c.args.state.now in
    let l = c.loop-left in
    running_more (stream_view c.args.stream.now) c.args.knobs old.made
    (page_draft_view old.draft) c.args.steps l.left l.state c.advance.new.state
    l.invariant c.loop-left-test.true (c.is_going.ensures.going c.if-not-is_going.false).0 c.in_ok-advance.ensures.at
    c.in_ok-advance.ensures.made
