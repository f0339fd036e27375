use Rattle.sched_record.proofs.Settled.{has_read_too}
use Rattle.sched_record.proofs.trace_reader.TraceReader.settled_line.Goals as goal

pub returns : goal.returns
returns c = has_read_too
