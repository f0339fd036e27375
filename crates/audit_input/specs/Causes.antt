-- Which cause a report names for a cause of the readers and of joining (this project's format).
use Rattle.companion_file.specs.declared.fault.CompanionCause.{CompanionCause}
use Rattle.companion_file.specs.declared.fault.CompanionCause.TheVariants as companions
use Rattle.ftrace_line.specs.declared.fault.LineFault.{LineFault}
use Rattle.ftrace_line.specs.declared.fault.LineFault.TheVariants as lines
use Rattle.sched_event.specs.declared.fault.EventFault.{EventFault}
use Rattle.sched_event.specs.declared.fault.EventFault.TheVariants as events
use Rattle.sched_record.specs.declared.cause.TraceCause.{TraceCause}
use Rattle.sched_record.specs.declared.cause.TraceCause.TheVariants as traces
use Rattle.sched_record.specs.declared.joining.JoinCause.{JoinCause}
use Rattle.sched_record.specs.declared.joining.JoinCause.TheVariants as joins
use Rattle.audit_input.specs.declared.cause.Cause.{Cause}
use Rattle.audit_input.specs.declared.cause.Cause.TheVariants.{BadHead, NumberRange, LostEvents, BadFields, RealTime}
use Rattle.audit_input.specs.declared.cause.Cause.TheVariants.{PrioRange, IdleNamed, TimeBack, TooManyLines, Version}
use Rattle.audit_input.specs.declared.cause.Cause.TheVariants.{Group, BadLine, Order, TwiceNamed, TwiceRunning}
use Rattle.audit_input.specs.declared.cause.Cause.TheVariants.{LineOrder, NoTask, Short, CpuOutside, StartLate}
use Rattle.audit_input.specs.declared.cause.Cause.TheVariants.{ClaimNoEvent}

-- of a line of the trace
abbrev pub line_cause : LineFault → Cause
line_cause lines.BadHead = BadHead
line_cause lines.NumberRange = NumberRange

-- of an event's text
abbrev pub event_cause : EventFault → Cause
event_cause events.BadFields = BadFields
event_cause events.NumberRange = NumberRange
event_cause events.RealTime = RealTime
event_cause events.PrioRange = PrioRange
event_cause events.IdleNamed = IdleNamed

-- of the trace
abbrev pub trace_cause : TraceCause → Cause
trace_cause traces.TooManyLines = TooManyLines
trace_cause (traces.Line fault) = line_cause fault
trace_cause traces.LostEvents = LostEvents
trace_cause (traces.Event fault) = event_cause fault
trace_cause traces.TimeBack = TimeBack

-- of the companion
abbrev pub companion_cause : CompanionCause → Cause
companion_cause companions.Version = Version
companion_cause companions.Group = Group
companion_cause companions.BadLine = BadLine
companion_cause companions.Order = Order
companion_cause companions.NumberRange = NumberRange
companion_cause companions.TwiceNamed = TwiceNamed
companion_cause companions.TwiceRunning = TwiceRunning
companion_cause companions.LineOrder = LineOrder
companion_cause companions.NoTask = NoTask
companion_cause companions.Short = Short

-- of joining
abbrev pub join_cause : JoinCause → Cause
join_cause joins.CpuOutside = CpuOutside
join_cause joins.StartLate = StartLate
join_cause joins.ClaimNoEvent = ClaimNoEvent
