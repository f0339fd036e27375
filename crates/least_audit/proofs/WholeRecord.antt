-- A whole record in windows: what was seen so far is a front of its events, and behind the last window all were seen.
use Rattle.std.proofs.Common.{◌≡◌, ℕ, ◌+◌, ◌^◌, ◌<◌, ◌≤◌, List, ◌++◌, length, take, drop, sym, ap, ◌∙◌, subst, arith}
use Rattle.std.proofs.lemmas.List.{length-map, length-take, take_all, take_min}
use Rattle.cfs_model.specs.Claimed.{Claimed}
use Rattle.cfs_model.specs.Laws.{GreatestTellBadAtAll}
use Rattle.cfs_model.specs.Least.{greatest_settings}
use Rattle.cfs_model.specs.Start.{start_machine}
use Rattle.least_places.specs.LeastAnswer.{IsLeastAnswer}
use Rattle.least_places.specs.declared.figures.LeastFigures.TheVariants.{Fault}
use Rattle.least_places.proofs.OnLine.{same_entries}
use Rattle.replay_laws.specs.FirstFaults.{FaultIsFirstBad}
use Rattle.replay_model.specs.Cause.{IsFirstFault}
use Rattle.replay_model.specs.declared.first_fault.FirstFault.{FirstFault}
use Rattle.sched_record.specs.Record.{IsRecordInOrder, RecordView, record_last_line}
use Rattle.ticket_book.specs.SaidEvents.{events_of}
use Rattle.ticket_book.specs.Told.{cause_view}
use Rattle.ticket_book.proofs.Verdicts.{record_in_order}
use Rattle.window_audit.specs.Whole.{beginning_of}
use Rattle.window_audit.proofs.WholeRecord.{fault_of, join_take, next_of}
use Rattle.window_laws.specs.Windows.{FaultStays}
use Rattle.least_audit.specs.Audit.{HasSeenRecord, IsLeastAuditOf, LeastComesNext}
use Rattle.least_audit.specs.declared.audit.LeastAudit.{LeastAudit}

module _ (r : RecordView) (order : IsRecordInOrder r) where
  abbrev all : List Claimed
  all = events_of r

  -- what comes next
  pub least_next : (from size last_line : ℕ) (window : List Claimed) (audit : LeastAudit)
      → last_line ≡ record_last_line r → last_line < 2 ^ 32 → window ≡ take size (drop from all)
      → IsLeastAuditOf (beginning_of greatest_settings r) (take from all) audit
      → LeastComesNext (beginning_of greatest_settings r) (take from all) window audit
  least_next from size last_line window audit line_is line is seen =
      let next = next_of greatest_settings r order from size last_line window audit.audit line_is line is
      seen.audited in
      record {
        audit_is = seen;
        is_record = next.is_record;
        some = next.some;
        few = next.few;
        fit = next.fit;
      }

  -- it was seen
  pub least_seen : (from size count : ℕ) (window : List Claimed) (audit : LeastAudit)
      → window ≡ take size (drop from all) → count ≡ length window
      → IsLeastAuditOf (beginning_of greatest_settings r) (take from all ++ window) audit
      → IsLeastAuditOf (beginning_of greatest_settings r) (take (from + count) all) audit
  least_seen from size count window audit is counted seen =
      let n = length-take size (drop from all) in
      let d = ap length is in
      let same : window ≡ take count (drop from all) =
      is ∙ sym (take_min size (drop from all)) ∙ ap (λ k. take k (drop from all)) (omega (arith, n, d, counted)) in
      subst (λ es. IsLeastAuditOf (beginning_of greatest_settings r) es audit)
      (ap (λ w. take from all ++ w) same ∙ join_take from count all) seen

  -- a fault in it is the record's
  pub least_fault_of : (from size : ℕ) (window : List Claimed) (fault : FirstFault) → FaultStays → FaultIsFirstBad
      → GreatestTellBadAtAll → window ≡ take size (drop from all)
      → IsFirstFault greatest_settings r.start (start_machine r.start r.floors r.tasks) (take from all ++ window)
      fault.line (cause_view fault)
      → IsLeastAnswer r (Fault fault)
  least_fault_of from size window fault stays first_bad at_all is first =
      let faulty = fault_of greatest_settings r order from size window fault stays first_bad is first in
      (at_all r.start (start_machine r.start r.floors r.tasks) all fault.line faulty.line, faulty)

  -- behind the last window
  pub least_whole : (from : ℕ) (audit : LeastAudit) → length r.events ≤ from
      → IsLeastAuditOf (beginning_of greatest_settings r) (take from all) audit → HasSeenRecord r audit
  least_whole from audit over seen = record {
    is_record = record_in_order r order;
    all = subst (λ es. IsLeastAuditOf (beginning_of greatest_settings r) es audit)
        (take_all from all (let n = ap length (same_entries r) in
        let m = length-map all (λ (event : Claimed). event.entry) in omega (arith, n, m, over))) seen;
  }
