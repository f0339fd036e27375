use Rattle.sched_record.proofs.OneTrace.{one_trace}
use Rattle.sched_record.proofs.laws.one_trace_answer.Goals as goal

pub returns : goal.returns
returns c = one_trace (record { lines = c.one_reading.ensures; events = c.one_answer.ensures })
