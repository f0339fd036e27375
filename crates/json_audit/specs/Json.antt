-- The outcome of a run whose report is JSON, and what is said of the name of a fault's task (this project's profile).
use Rattle.std.specs.Prelude.{Option, ⊤}
use Rattle.audit_report.specs.declared.outcome.Outcome.{Outcome}
use Rattle.audit_report.specs.declared.outcome.Outcome.TheVariants.{Judged, Text}
use Rattle.replay_model.specs.declared.first_fault.FirstFault.{FirstFault}
use Rattle.report_json.specs.Timed.{HasName}
use Rattle.report_json.specs.declared.as_json.AsJson.{AsJson}
use Rattle.report_json.specs.declared.name.NameTold.{NameTold}
use Rattle.sched_audit.specs.declared.hearing.Kept.{Kept}
use Rattle.sched_audit.specs.declared.hearing.Kept.TheVariants.{Record}
use Rattle.sched_record.specs.Record.{record_view}

-- the same, with this said of the name of a fault's task
abbrev pub told_with : {J : Type 0} → NameTold → AsJson J → AsJson J
told_with name told = record { judged = told.judged; time = told.time; bound = told.bound; name = name }

abbrev pub with_name : {J : Type 0} → NameTold → Outcome (AsJson J) → Outcome (AsJson J)
with_name name (Judged told) = Judged (told_with name told)
with_name name (Text source line cause) = Text source line cause

-- the name is that of the fault's task by a line of the record that was judged
abbrev pub IsNamedIn : {J : Type 0} → (J → Option FirstFault) → Outcome (AsJson J) → Kept → NameTold → Type 0
IsNamedIn fault_of (Judged told) (Record joined) name = HasName (record_view joined) (fault_of told.judged) name
IsNamedIn fault_of _ _ name = ⊤
