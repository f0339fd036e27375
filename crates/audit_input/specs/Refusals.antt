-- The refusal that a fault of the readers and of joining is, and what reading and joining two texts gives (this
-- project's profile).
use Rattle.std.specs.Prelude.{ℕ, List, Result, Ok, Err}
use Rattle.companion_file.specs.declared.fault.CompanionFault.{CompanionFault}
use Rattle.companion_file.specs.declared.fault.CompanionFault.TheVariants as companion_faults
use Rattle.sched_record.specs.declared.cause.TraceFault.{TraceFault}
use Rattle.sched_record.specs.declared.cause.TraceFault.TheVariants as trace_faults
use Rattle.sched_record.specs.declared.joining.JoinFault.{JoinFault}
use Rattle.audit_input.specs.declared.refused.Refused.{Refused}
use Rattle.audit_input.specs.declared.refused.Refused.TheVariants as refusals
use Rattle.audit_input.specs.declared.source.Source.TheVariants.{Trace, Companion, Join}
use Rattle.sched_record.specs.declared.record.Record.{Record}
use Rattle.sched_record.specs.Record.{record_view}
use Rattle.audit_input.specs.Causes.{trace_cause, companion_cause, join_cause}
use Rattle.audit_input.specs.Texts.{IsRecordOf, IsRefused}

-- the refusal that a fault of the trace is
abbrev pub trace_refusal : TraceFault → Refused
trace_refusal (trace_faults.Text line cause) = refusals.Text Trace line (trace_cause cause)
trace_refusal trace_faults.Memory = refusals.Memory

-- the refusal that a fault of the companion is
abbrev pub companion_refusal : CompanionFault → Refused
companion_refusal (companion_faults.Text line cause) = refusals.Text Companion line (companion_cause cause)
companion_refusal companion_faults.Memory = refusals.Memory

-- the refusal that a fault of joining is
abbrev pub join_refusal : JoinFault → Refused
join_refusal fault = refusals.Text Join fault.line (join_cause fault.cause)

-- what reading and joining both texts gives: their record, or why one is refused; of want of memory nothing is said
abbrev pub IsTexts : List ℕ → List ℕ → Result Record Refused → Type 0
IsTexts trace companion (Ok r) = IsRecordOf trace companion (record_view r)
IsTexts trace companion (Err (refusals.Text source line cause)) = IsRefused trace companion source line cause
IsTexts trace companion (Err refusals.Memory) = Unit {0}
