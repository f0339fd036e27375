-- A record has one verdict, and one answer of its least settings (this project's profile).
use Rattle.std.specs.Prelude.{◌≡◌}
use Rattle.cfs_model.specs.Order.{IsStart}
use Rattle.cfs_model.specs.Knobs.{KnobsView}
use Rattle.replay_model.specs.Summary.{SummaryView}
use Rattle.replay_model.specs.declared.first_fault.FirstFault.{FirstFault}
use Rattle.sched_record.specs.Record.{RecordView}
use Rattle.ticket_book.specs.LeastAnswer.{IsLeastAnswer}
use Rattle.ticket_book.specs.SummaryView.{summary_view}
use Rattle.ticket_book.specs.Verdict.{IsVerdict}
use Rattle.ticket_book.specs.declared.least_settings.LeastSettings.{LeastSettings}
use Rattle.ticket_book.specs.declared.verdict.Verdict.{Verdict}
use Rattle.ticket_book.specs.declared.verdict.Verdict.TheVariants.{Run, Fault}

-- what a verdict tells
pub data VerdictView : Type 0 where
  -- a run, and what it did
  ran : SummaryView → VerdictView
  -- a fault
  faulted : FirstFault → VerdictView

-- a verdict, without where its tallies lie in memory
abbrev pub verdict_view : Verdict → VerdictView
verdict_view (Run summary) = ran (summary_view summary)
verdict_view (Fault fault) = faulted fault

-- each verdict on the record tells what this one tells
abbrev pub IsOneVerdict : KnobsView → RecordView → Verdict → Type 0
IsOneVerdict knobs r verdict = (other : Verdict) → IsVerdict knobs r other → verdict_view verdict ≡ verdict_view other

-- two verdicts on one record, by the same settings, tell the same, the summary included
abbrev pub OneVerdict : Type 0
OneVerdict = (knobs : KnobsView) (r : RecordView) (verdict : Verdict) → IsStart r.floors r.tasks
    → IsVerdict knobs r verdict → IsOneVerdict knobs r verdict

-- two answers of one record's least settings are the same
abbrev pub OneLeastAnswer : Type 0
OneLeastAnswer = (r : RecordView) (one other : LeastSettings) → IsStart r.floors r.tasks
    → IsLeastAnswer r one → IsLeastAnswer r other → one ≡ other
