-- Two texts come to one outcome; so the bytes that a run reads fix the bytes that it writes and its status (this
-- project's profile).
use Rattle.std.specs.Prelude.{◌≡◌, ℕ, Bool, List, Option, Some, Ok}
use Rattle.std.specs.Io.KnownBytes.{Appends}
use Rattle.cfs_model.specs.Knobs.{KnobsView}
use Rattle.least_places.specs.LeastAnswer.{IsLeastAnswer}
use Rattle.least_places.specs.declared.figures.LeastFigures.{LeastFigures}
use Rattle.replay_model.specs.declared.first_fault.FirstFault.{FirstFault}
use Rattle.sched_record.specs.Record.{RecordView}
use Rattle.ticket_book.specs.OneVerdict.{verdict_view}
use Rattle.ticket_book.specs.Verdict.{IsVerdict}
use Rattle.ticket_book.specs.declared.verdict.Verdict.{Verdict}
use Rattle.sched_audit.specs.Answer.{OutcomeAnswer}
use Rattle.audit_report.specs.Codes.{status_of}
use Rattle.audit_report.specs.Report.{least_fault, least_lines, report_of, verdict_fault, verdict_lines}
use Rattle.sched_audit.specs.Run.{Input, Output, Runs}
use Rattle.audit_report.specs.declared.outcome.Outcome.{Outcome}
use Rattle.audit_report.specs.declared.outcome.Outcome.TheVariants.{Judged, Text}
use Rattle.audit_report.specs.declared.status.Status.{Status}

-- an outcome, with what was judged as it is seen
abbrev pub outcome_view : {J V : Type 0} → (J → V) → Outcome J → Outcome V
outcome_view view (Judged judged) = Judged (view judged)
outcome_view view (Text source line cause) = Text source line cause

-- least settings are seen as they are
abbrev pub least_view : LeastFigures → LeastFigures
least_view least = least

-- two outcomes tell the same, and so have the same report and the same status
pub record AreOneOutcome {J V : Type 0} (view : J → V) (lines : Bool → J → List ℕ) (fault_of : J → Option FirstFault)
    (one other : Outcome J) : Type 0 where
  pub same : outcome_view view one ≡ outcome_view view other
  pub report : (tells_charges : Bool) → report_of (lines tells_charges) one ≡ report_of (lines tells_charges) other
  pub status : status_of fault_of one ≡ status_of fault_of other

-- two outcomes of the same two texts, by the same settings, are one
abbrev pub OneOutcome : Type 0
OneOutcome = (knobs : KnobsView) (trace companion : List ℕ) (one other : Outcome Verdict)
    → OutcomeAnswer (IsVerdict knobs) trace companion one → OutcomeAnswer (IsVerdict knobs) trace companion other
    → AreOneOutcome verdict_view (λ _. verdict_lines) verdict_fault one other

-- so are two of the least settings
abbrev pub OneLeastOutcome : Type 0
OneLeastOutcome = (trace companion : List ℕ) (one other : Outcome LeastFigures)
    → OutcomeAnswer IsLeastAnswer trace companion one → OutcomeAnswer IsLeastAnswer trace companion other
    → AreOneOutcome least_view least_lines least_fault one other

-- the bytes that two inputs gave are known, and these
abbrev pub Gave : Input → Input → List ℕ → List ℕ → Type 0
Gave trace companion bytes text = (trace.gave ≡ Some bytes) × (companion.gave ≡ Some text)

-- two outputs took the same bytes
abbrev pub TookTheSame : Output → Output → Type 0
TookTheSame out other = (report : List ℕ) × Appends out.before out.taken report
    × Appends other.before other.taken report

-- two runs over inputs that gave the same bytes, each of which answers a status: it is the same one, and they wrote the
-- same bytes
abbrev pub OneRunBy : {J : Type 0} → (RecordView → J → Type 0) → (Bool → J → List ℕ) → (J → Option FirstFault)
    → Type 0
OneRunBy is_of lines fault_of = (bytes text : List ℕ) (trace companion trace_again companion_again : Input)
    (out out_again : Output) (status again : Status) → Gave trace companion bytes text
    → Gave trace_again companion_again bytes text → Runs is_of lines fault_of trace companion out (Ok status)
    → Runs is_of lines fault_of trace_again companion_again out_again (Ok again)
    → (status ≡ again) × TookTheSame out out_again

-- of verdicts, by the same settings
abbrev pub OneRun : Type 0
OneRun = (knobs : KnobsView) → OneRunBy (IsVerdict knobs) (λ _. verdict_lines) verdict_fault

-- of the least settings
abbrev pub OneLeastRun : Type 0
OneLeastRun = OneRunBy IsLeastAnswer least_lines least_fault
