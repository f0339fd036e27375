-- The verdict on a record: the headline (this project's profile). What a run is, is said by cfs_model; what its summary
-- is, and what is wrong with the first event up to which the events are none, by replay_model.
use Rattle.cfs_model.specs.Run.{IsFirstBad}
use Rattle.cfs_model.specs.Knobs.{KnobsView}
use Rattle.cfs_model.specs.Start.{start_machine}
use Rattle.replay_model.specs.Cause.{IsFirstFault}
use Rattle.replay_model.specs.Summary.{SummaryView, IsSummary}
use Rattle.replay_model.specs.declared.first_fault.FirstFault.{FirstFault}
use Rattle.sched_record.specs.Record.{RecordView}
use Rattle.ticket_book.specs.SaidEvents.{events_of}
use Rattle.ticket_book.specs.SummaryView.{summary_view}
use Rattle.ticket_book.specs.declared.verdict.Verdict.{Verdict}
use Rattle.ticket_book.specs.declared.verdict.Verdict.TheVariants.{Run, Fault}

-- the record's events, with the claims and the changes of nice values on their lines and the policies of the tasks that
-- they bear or move, are a run of the scheduler from the record's start state, and this is the summary of that run
abbrev pub IsScheduled : KnobsView → RecordView → SummaryView → Type 0
IsScheduled knobs r summary =
    IsSummary knobs r.start (start_machine r.start r.floors r.tasks) r.tasks (events_of r) summary

-- the fault's line is the first up to which the record's events are no run, and the fault tells what is wrong there;
-- the line stands by itself, in the words of a run alone
pub record IsFaulty (knobs : KnobsView) (r : RecordView) (fault : FirstFault) : Type 0 where
  pub line : IsFirstBad knobs r.start (start_machine r.start r.floors r.tasks) (events_of r) fault.line
  pub cause : IsFirstFault knobs r.start (start_machine r.start r.floors r.tasks) (events_of r) fault.line
      (record { cpu = fault.cpu; pid = fault.pid; kind = fault.kind })

-- a verdict on a record: yes means that it is a run, and tells what the run did; a fault names the first line up to
-- which the events are none, and what is wrong there
abbrev pub IsVerdict : KnobsView → RecordView → Verdict → Type 0
IsVerdict knobs r (Run summary) = IsScheduled knobs r (summary_view summary)
IsVerdict knobs r (Fault fault) = IsFaulty knobs r fault
