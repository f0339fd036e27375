-- Two verdicts on one record tell the same: a run has one list of states and no first fault, and there is at most one
-- first fault. Two answers of its least settings are the same: there is one least, and where there is one, no event is
-- bad at all settings.
use Rattle.std.proofs.Common.{◌≡◌, ℕ, ◌++◌, ◌∷◌, [], sym, ap, ◌∙◌, subst, append_assoc}
use Rattle.cfs_model.specs.Laws.{OneLeast, OneList, RunPrefix}
use Rattle.cfs_model.specs.Least.{greatest_settings}
use Rattle.cfs_model.specs.Order.{IsStart}
use Rattle.cfs_model.specs.Run.{IsRun}
use Rattle.cfs_model.specs.Knobs.{KnobsView}
use Rattle.cfs_model.specs.Start.{start_machine}
use Rattle.cfs_model.specs.declared.kind.Kind.{Kind}
use Rattle.replay_laws.specs.FirstFaults.{OneFirstFault, RunHasNoFault}
use Rattle.replay_model.specs.Cause.{FaultCause}
use Rattle.replay_model.specs.Summary.{SummaryView, summary_of}
use Rattle.replay_model.specs.declared.first_fault.FirstFault.{FirstFault}
use Rattle.sched_record.specs.Record.{RecordView}
use Rattle.ticket_book.specs.LeastAnswer.{IsLeastAnswer}
use Rattle.ticket_book.specs.OneVerdict.{OneLeastAnswer, OneVerdict, faulted, ran}
use Rattle.ticket_book.specs.SaidEvents.{events_of}
use Rattle.ticket_book.specs.SummaryView.{summary_view}
use Rattle.ticket_book.specs.Told.{cause_view}
use Rattle.ticket_book.specs.Verdict.{IsFaulty, IsScheduled}
use Rattle.ticket_book.specs.declared.least_settings.LeastSettings.TheVariants as leasts
use Rattle.ticket_book.specs.declared.verdict.Verdict.TheVariants.{Run, Fault}

-- a run has one summary
one_summary : OneList → (knobs : KnobsView) (r : RecordView) (one other : SummaryView) → IsScheduled knobs r one
    → IsScheduled knobs r other → one ≡ other
one_summary list knobs r one other p q =
    let first = start_machine r.start r.floors r.tasks in
    let same = list knobs first (events_of r) p.run.states q.run.states p.run.steps q.run.steps in
    p.is ∙ ap (summary_of first r.tasks (events_of r)) same ∙ sym q.is

-- a fault is its parts
fault_of_parts : (l m c d p q : ℕ) (k j : Kind) → l ≡ m → c ≡ d → p ≡ q → k ≡ j
    → ◌≡◌ {A = FirstFault} (record { line = l; cpu = c; pid = p; kind = k })
    (record { line = m; cpu = d; pid = q; kind = j })
fault_of_parts l m c d p q k j a b e f = cc

one_fault : OneFirstFault → (knobs : KnobsView) (r : RecordView) (one other : FirstFault) → IsStart r.floors r.tasks
    → IsFaulty knobs r one → IsFaulty knobs r other → one ≡ other
one_fault law knobs r one other start p q =
    let same = law knobs r.start r.floors r.tasks (events_of r) one.line other.line (cause_view one) (cause_view other)
    start p.cause q.cause in
    fault_of_parts one.line other.line one.cpu other.cpu one.pid other.pid one.kind other.kind same.0
    (ap (λ (c : FaultCause). c.cpu) same.1) (ap (λ (c : FaultCause). c.pid) same.1)
    (ap (λ (c : FaultCause). c.kind) same.1)

not_both : RunHasNoFault → (knobs : KnobsView) (r : RecordView) (summary : SummaryView) (fault : FirstFault)
    → IsScheduled knobs r summary → IsFaulty knobs r fault → ⊥
not_both law knobs r summary fault p q =
    law knobs r.start r.floors r.tasks (events_of r) fault.line (cause_view fault) p.run q.cause

pub one_verdict : OneList → RunHasNoFault → OneFirstFault → OneVerdict
one_verdict list none once knobs r (Run one) start p (Run other) q =
    ap ran (one_summary list knobs r (summary_view one) (summary_view other) p q)
one_verdict list none once knobs r (Run one) start p (Fault other) q =
    absurd (not_both none knobs r (summary_view one) other p q)
one_verdict list none once knobs r (Fault one) start p (Run other) q =
    absurd (not_both none knobs r (summary_view other) one q p)
one_verdict list none once knobs r (Fault one) start p (Fault other) q =
    ap faulted (one_fault once knobs r one other start p q)

-- where there are least settings in range, no event is bad at all settings in range
found_or_bad : RunPrefix → (r : RecordView) (knobs : KnobsView) (fault : FirstFault)
    → IsLeastAnswer r (leasts.Found knobs) → IsLeastAnswer r (leasts.Fault fault) → ⊥
found_or_bad prefix r knobs fault p q =
    let first = start_machine r.start r.floors r.tasks in
    let bad = q.0 in
    bad.ends knobs p.1
    (prefix knobs r.start first (bad.before ++ bad.event ∷ []) bad.rest
    (subst (IsRun knobs r.start first) (bad.whole ∙ sym (append_assoc bad.before (bad.event ∷ []) bad.rest)) p.0.run))

pub one_least_answer : OneLeast → RunPrefix → OneFirstFault → OneLeastAnswer
one_least_answer least prefix once r (leasts.Found one) (leasts.Found other) start p q =
    ap leasts.Found (least r.start (start_machine r.start r.floors r.tasks) (events_of r) one other p.0 q.0)
one_least_answer least prefix once r (leasts.Found one) (leasts.Fault other) start p q =
    absurd (found_or_bad prefix r one other p q)
one_least_answer least prefix once r (leasts.Fault one) (leasts.Found other) start p q =
    absurd (found_or_bad prefix r other one q p)
one_least_answer least prefix once r (leasts.Fault one) (leasts.Fault other) start p q =
    ap leasts.Fault (one_fault once greatest_settings r one other start p.1 q.1)
