-- A stream, as contracts see it (this project's profile).
use Rattle.processor_stream.specs.declared.stream.Stream.{Stream}
pub use Rattle.replay_model.specs.Cut.{StreamView}
pub use Rattle.processor_stream.specs.StreamKept.{IsStream}

-- the stream, without where it lies in memory
abbrev pub stream_view : Stream → StreamView
stream_view s = record {
  cpu = s.cpu;
  tasks = s.tasks;
  floor = s.floor;
  start = s.start;
  steps = s.steps;
  last_time = s.last_time;
  last_line = s.last_line;
}
