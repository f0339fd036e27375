-- What is seen of a trace in memory, and of what a reading answers.
use Rattle.std.specs.Prelude.{ℕ, List, Result, Ok, Err}
use Rattle.cfs_model.specs.declared.act.Entry.{Entry}
use Rattle.sched_record.specs.declared.cause.TraceCause.{TraceCause}
use Rattle.sched_record.specs.declared.cause.TraceFault.{TraceFault}
use Rattle.sched_record.specs.declared.cause.TraceFault.TheVariants.{Text, Memory}
use Rattle.sched_record.specs.declared.trace.Trace.{Trace}

-- the events of a trace that was read
abbrev pub trace_view : Trace → List Entry
trace_view trace = trace.events

-- what a reading says of the trace meets the fact; want of memory says nothing of it
abbrev pub Tells : Result Trace TraceFault → (Result (List Entry) (ℕ × TraceCause) → Type 0) → Type 0
Tells (Ok trace) Fact = Fact (Ok (trace_view trace))
Tells (Err (Text line cause)) Fact = Fact (Err (line, cause))
Tells (Err Memory) Fact = Unit {0}
