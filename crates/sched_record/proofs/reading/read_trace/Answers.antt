use Rattle.sched_record.proofs.Telling.{tells_only}
use Rattle.sched_record.proofs.reading.read_trace.Goals as goal

pub returns-clause-only : goal.returns-clause-only
returns-clause-only c answer holds = tells_only c.args.text.now c.trace_of.result answer c.one_trace_answer.ensures
    c.trace_of.ensures holds
