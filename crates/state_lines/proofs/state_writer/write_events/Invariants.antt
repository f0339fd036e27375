-- The replay is that of the stream, and has made the steps before this one.
use Rattle.std.proofs.Common.{◌≡◌}
use Rattle.processor_stream.specs.Stream.{stream_view}
use Rattle.state_lines.proofs.state_writer.write_events.Given as goal

abbrev pub invariant-loop-step : goal.invariant-loop-step
invariant-loop-step g l =
    (l.replay.made ≡ l.step-index) × (l.replay.stream ≡ stream_view l.fn.stream)
    × (l.steps ≡ (stream_view l.fn.stream).steps)
