use Rattle.std.proofs.Common.{refl}
use Rattle.least_places.specs.LeastAnswer.{IsLeastAnswer}
use Rattle.audit_laws.specs.OneOutcome.{least_view}
use Rattle.audit_report.specs.Report.{least_fault, least_lines}
use Rattle.audit_laws.proofs.OneOf.{one_by_view, same_outcome}
use Rattle.audit_laws.proofs.one_least_outcome.Goals as goal

pub returns : goal.returns
returns c trace companion one other p q =
    one_by_view least_view least_lines least_fault least_lines least_fault (λ _ least. refl) (λ least. refl) one other
    (same_outcome trace companion c.one_trace_answer.ensures c.one_companion_answer.ensures c.one_record_answer.ensures
    IsLeastAnswer least_view (λ r a b start x y. c.one_least_figures.ensures r a b start x y) one other p q)
