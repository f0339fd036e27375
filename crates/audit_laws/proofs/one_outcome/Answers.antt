-- What a verdict's report and status go by is what it tells.
use Rattle.std.proofs.Common.{◌≡◌, ℕ, List, Option, Some, None, refl}
use Rattle.replay_model.specs.declared.first_fault.FirstFault.{FirstFault}
use Rattle.ticket_book.specs.OneVerdict.{VerdictView, faulted, ran, verdict_view}
use Rattle.ticket_book.specs.Verdict.{IsVerdict}
use Rattle.ticket_book.specs.declared.verdict.Verdict.{Verdict}
use Rattle.ticket_book.specs.declared.verdict.Verdict.TheVariants.{Run, Fault}
use Rattle.audit_report.specs.Report.{fault_line, run_lines, verdict_fault, verdict_lines}
use Rattle.audit_laws.proofs.OneOf.{one_by_view, same_outcome}
use Rattle.audit_laws.proofs.one_outcome.Goals as goal

seen_lines : VerdictView → List ℕ
seen_lines (ran summary) = run_lines summary
seen_lines (faulted fault) = fault_line fault

seen_fault : VerdictView → Option FirstFault
seen_fault (ran summary) = None
seen_fault (faulted fault) = Some fault

by_lines : (verdict : Verdict) → verdict_lines verdict ≡ seen_lines (verdict_view verdict)
unfolding seen_lines
by_lines (Run summary) = refl
by_lines (Fault fault) = refl

by_fault : (verdict : Verdict) → verdict_fault verdict ≡ seen_fault (verdict_view verdict)
unfolding seen_fault
by_fault (Run summary) = refl
by_fault (Fault fault) = refl

pub returns : goal.returns
returns c knobs trace companion one other p q =
    one_by_view verdict_view (λ _. verdict_lines) verdict_fault (λ _. seen_lines) seen_fault (λ _. by_lines) by_fault
    one other
    (same_outcome trace companion c.one_trace_answer.ensures c.one_companion_answer.ensures c.one_record_answer.ensures
    (IsVerdict knobs) verdict_view (λ r a b start x y. c.one_verdict.ensures knobs r a start x b y) one other p q)
