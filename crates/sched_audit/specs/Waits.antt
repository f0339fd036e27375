-- What is judged of a record, with the waits of its tasks (this project's profile).
use Rattle.std.specs.Prelude.{ℕ, Bool, List, ◌++◌, Option}
use Rattle.audit_report.specs.Beside.{AreWaitsBeside}
use Rattle.audit_report.specs.WaitLines.{told_waits_lines}
use Rattle.audit_report.specs.declared.with_waits.WithWaits.{WithWaits}
use Rattle.replay_model.specs.declared.first_fault.FirstFault.{FirstFault}
use Rattle.sched_record.specs.Record.{RecordView}

-- it is that of the record, and beside a run stand the waits of its tasks in its states
abbrev pub is_with_waits : {J : Type 0} → (J → Option FirstFault) → (RecordView → J → Type 0) → RecordView
    → WithWaits J → Type 0
is_with_waits fault_of is_of r told = is_of r told.judged × AreWaitsBeside r (fault_of told.judged) told.waits

-- the lines of both
abbrev pub lines_with : {J : Type 0} → (Bool → J → List ℕ) → Bool → WithWaits J → List ℕ
lines_with lines tells_charges told = lines tells_charges told.judged ++ told_waits_lines told.waits

-- the fault that is named
abbrev pub fault_with : {J : Type 0} → (J → Option FirstFault) → WithWaits J → Option FirstFault
fault_with fault_of told = fault_of told.judged
