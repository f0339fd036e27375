-- What a reading tells of a trace.
use Rattle.std.proofs.Common.{◌≡◌, ℕ, List, Result, Ok, Err}
use Rattle.cfs_model.specs.declared.act.Entry.{Entry}
use Rattle.sched_record.specs.declared.cause.TraceCause.{TraceCause}
use Rattle.sched_record.specs.declared.cause.TraceFault.{TraceFault}
use Rattle.sched_record.specs.declared.cause.TraceFault.TheVariants.{Text, Memory}
use Rattle.sched_record.specs.declared.trace.Trace.{Trace}
use Rattle.sched_record.specs.Trace.{TraceAnswer}
use Rattle.sched_record.specs.Seen.{Tells, trace_view}

-- since a trace means one thing, what is told is any answer that it has
pub tells_only : (text : List ℕ) (r : Result Trace TraceFault) (answer : Result (List Entry) (ℕ × TraceCause))
    → ((text : List ℕ) (a b : Result (List Entry) (ℕ × TraceCause)) → TraceAnswer text a → TraceAnswer text b → a ≡ b)
    → Tells r (TraceAnswer text) → TraceAnswer text answer → Tells r (λ told. told ≡ answer)
tells_only text (Ok trace) answer once told holds = once text (Ok (trace_view trace)) answer told holds
tells_only text (Err (Text line cause)) answer once told holds = once text (Err (line, cause)) answer told holds
tells_only text (Err Memory) answer once told holds = tt
