-- What a run writes that was asked for in lines, by what is asked (this project's profile).
use Rattle.std.specs.Prelude.{Bool, true, false, Result}
use Rattle.audit_input.specs.declared.fault.Fault.{Fault}
use Rattle.audit_report.specs.Report.{IsCounted, counted_fault, counted_lines, least_fault, least_lines}
use Rattle.audit_report.specs.Report.{verdict_fault, verdict_lines}
use Rattle.audit_report.specs.declared.status.Status.{Status}
use Rattle.cfs_model.specs.Knobs.{KnobsView}
use Rattle.least_places.specs.LeastAnswer.{IsLeastAnswer}
use Rattle.sched_audit.specs.Run.{Input, Output, Runs, RunsInBlocks}
use Rattle.sched_audit.specs.Waits.{fault_with, is_with_waits, lines_with}
use Rattle.ticket_book.specs.Verdict.{IsVerdict}

-- of least settings, of a run's counts alone, or of a verdict, each with the waits of the tasks or without
abbrev pub RunsAsked : Bool → Bool → Bool → KnobsView → Input → Input → Output → Result Status Fault → Type 0
RunsAsked true summary true knobs =
    Runs (is_with_waits least_fault IsLeastAnswer) (lines_with least_lines) (fault_with least_fault)
RunsAsked true summary false knobs = RunsInBlocks IsLeastAnswer least_lines least_fault
RunsAsked false true true knobs =
    Runs (is_with_waits counted_fault (IsCounted knobs)) (lines_with (λ _. counted_lines)) (fault_with counted_fault)
RunsAsked false true false knobs = RunsInBlocks (IsCounted knobs) (λ _. counted_lines) counted_fault
RunsAsked false false true knobs =
    Runs (is_with_waits verdict_fault (IsVerdict knobs)) (lines_with (λ _. verdict_lines)) (fault_with verdict_fault)
RunsAsked false false false knobs = RunsInBlocks (IsVerdict knobs) (λ _. verdict_lines) verdict_fault
