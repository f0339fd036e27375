-- What two texts come to: the headline (this project's profile). What the texts mean is said by Texts; what a verdict
-- on their record says, and what its least settings are, by ticket_book.
use Rattle.std.specs.Prelude.{ℕ, ⊤, List, Result, Ok, Err}
use Rattle.sched_record.specs.Record.{RecordView}
use Rattle.audit_input.specs.Texts.{IsRecordOf, IsRefused}
use Rattle.audit_report.specs.declared.outcome.Outcome.{Outcome}
use Rattle.audit_report.specs.declared.outcome.Outcome.TheVariants as outcomes
use Rattle.audit_input.specs.declared.refused.Refused.{Refused}
use Rattle.audit_input.specs.declared.refused.Refused.TheVariants as refusals

-- the outcome of a trace and its companion: what is judged of their record, or why one of them is refused
abbrev pub OutcomeAnswer : {J : Type 0} → (RecordView → J → Type 0) → List ℕ → List ℕ → Outcome J → Type 0
OutcomeAnswer is_of trace companion (outcomes.Judged judged) =
    (r : RecordView) × IsRecordOf trace companion r × is_of r judged
OutcomeAnswer is_of trace companion (outcomes.Text source line cause) = IsRefused trace companion source line cause

-- the same of an answer; of one for which memory ran out nothing is said
abbrev pub IsAnswer : {J : Type 0} → (RecordView → J → Type 0) → List ℕ → List ℕ → Result J Refused → Type 0
IsAnswer is_of trace companion (Ok judged) = OutcomeAnswer is_of trace companion (outcomes.Judged judged)
IsAnswer is_of trace companion (Err (refusals.Text source line cause)) = IsRefused trace companion source line cause
IsAnswer is_of trace companion (Err refusals.Memory) = ⊤
