use Rattle.sched_record.proofs.Telling.{tells_only}
use Rattle.sched_record.proofs.reading_wide.read_trace_wide.Goals as goal

pub returns-clause-only : goal.returns-clause-only
returns-clause-only g c answer holds = tells_only c.args.text.now c.trace_of.result answer c.one_trace_answer.ensures
    c.trace_of.ensures holds
