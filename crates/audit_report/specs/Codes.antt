-- Exit statuses of what is reported (this project's format).
use Rattle.std.specs.Prelude.{ℕ, Option, Some, None}
use Rattle.replay_model.specs.declared.first_fault.FirstFault.{FirstFault}
use Rattle.audit_report.specs.declared.status.Status.{Status}
use Rattle.audit_report.specs.declared.status.Status.TheVariants.{Yes, No, Refused}
use Rattle.audit_report.specs.declared.outcome.Outcome.{Outcome}
use Rattle.audit_report.specs.declared.outcome.Outcome.TheVariants.{Judged, Text}

-- yes, no, and a refused text
abbrev pub code_of_status : Status → ℕ
code_of_status Yes = 0
code_of_status No = 1
code_of_status Refused = 2

-- no fault is a yes, and a fault in the schedule a no
abbrev pub status_by : Option FirstFault → Status
status_by None = Yes
status_by (Some fault) = No

-- by the fault that is named, if one is
abbrev pub status_of : {J : Type 0} → (J → Option FirstFault) → Outcome J → Status
status_of fault_of (Judged judged) = status_by (fault_of judged)
status_of fault_of (Text source line cause) = Refused
