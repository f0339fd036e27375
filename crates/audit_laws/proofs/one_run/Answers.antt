use Rattle.least_places.specs.LeastAnswer.{IsLeastAnswer}
use Rattle.ticket_book.specs.OneVerdict.{verdict_view}
use Rattle.ticket_book.specs.Verdict.{IsVerdict}
use Rattle.audit_laws.specs.OneOutcome.{least_view}
use Rattle.audit_report.specs.Report.{least_fault, least_lines, verdict_fault, verdict_lines}
use Rattle.audit_laws.proofs.OneOf.{one_run_by}
use Rattle.audit_laws.proofs.one_run.Goals as goal

pub returns-clause-verdict : goal.returns-clause-verdict
returns-clause-verdict c knobs =
    one_run_by (IsVerdict knobs) verdict_view (λ _. verdict_lines) verdict_fault (c.one_outcome.ensures knobs)

pub returns-clause-least : goal.returns-clause-least
returns-clause-least c =
    one_run_by IsLeastAnswer least_view least_lines least_fault c.one_least_outcome.ensures
