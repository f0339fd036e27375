-- A whole record in windows: what was seen so far is a front of its events, the window is what comes next, and behind
-- the last window all were seen.
use Rattle.std.proofs.Common.{◌≡◌, ◌≢◌, ℕ, zero, suc, ◌+◌, ◌^◌, ◌<◌, ◌≤◌, List, [], ◌∷◌, ◌++◌, length}
use Rattle.std.proofs.Common.{take, drop, refl, sym, ap, ◌∙◌, subst, arith}
use Rattle.std.specs.List.{AllByRecursion}
use Rattle.std.proofs.lemmas.List.{length-drop, length-map, length-take, take-append-drop}
use Rattle.std.proofs.lemmas.List.{take_all, take_min}
use Rattle.cfs_model.specs.Claimed.{Claimed, with_claim}
use Rattle.cfs_model.specs.Knobs.{KnobsView}
use Rattle.cfs_model.specs.Limits.{greatest_setting}
use Rattle.cfs_model.specs.Start.{start_machine}
use Rattle.cfs_model.specs.Touch.{touched}
use Rattle.cfs_model.specs.declared.act.Entry.{Entry}
use Rattle.replay_laws.specs.FirstFaults.{FaultIsFirstBad}
use Rattle.replay_model.specs.Cause.{IsFirstFault}
use Rattle.replay_model.specs.Record.{ChargeInRange, ClaimInRange, IsRecord, LinesRise, TimesRise}
use Rattle.replay_model.specs.declared.first_fault.FirstFault.{FirstFault}
use Rattle.sched_record.specs.Record.{RecordView, IsRecordInOrder, record_last_line, record_last_time}
use Rattle.sched_record.specs.RecordView.{policy_of}
use Rattle.ticket_book.specs.SaidEvents.{events_of}
use Rattle.ticket_book.specs.Told.{cause_view}
use Rattle.ticket_book.specs.Verdict.{IsFaulty}
use Rattle.ticket_book.proofs.Extent.{events_few, last_greatest, times_below}
use Rattle.ticket_book.proofs.Verdicts.{record_in_order}
use Rattle.window_laws.specs.Windows.{FaultStays}
use Rattle.window_laws.proofs.Appended.{all_front}
use Rattle.window_audit.specs.Audit.{Beginning, ComesNext, IsAuditOf, IsWhole}
use Rattle.window_audit.specs.Whole.{beginning_of}
use Rattle.window_audit.specs.declared.audit.WindowAudit.{WindowAudit}

nothing : (n : ℕ) → [] ≡ take {A = Claimed} n []
nothing zero = refl
nothing (suc n) = refl

-- a front, and of what is behind it a front
pub join_take : (i m : ℕ) (xs : List Claimed) → take i xs ++ take m (drop i xs) ≡ take (i + m) xs
join_take zero m xs = let e : m ≡ zero + m = omega arith in ap (λ n. take n xs) e
join_take (suc i) zero [] = nothing (suc i + zero)
join_take (suc i) (suc m) [] = nothing (suc i + suc m)
join_take (suc i) m (x ∷ xs) =
    let e : suc (i + m) ≡ suc i + m = omega arith in
    ap (λ ys. x ∷ ys) (join_take i m xs) ∙ ap (λ n. take n (x ∷ xs)) e

times_front : (time : ℕ) (xs ys : List Claimed) → TimesRise time (xs ++ ys) → TimesRise time xs
times_front time [] ys rise = tt
times_front time (x ∷ xs) ys rise = (rise.0, times_front x.entry.time xs ys rise.1)

lines_front : (line : ℕ) (xs ys : List Claimed) → LinesRise line (xs ++ ys) → LinesRise line xs
lines_front line [] ys rise = tt
lines_front line (x ∷ xs) ys rise = (rise.0, lines_front x.entry.line xs ys rise.1)

-- the front of a record's events is a record's
record_front : (of : Beginning) (xs ys : List Claimed) → IsRecord of.start of.floors of.tasks (xs ++ ys) of.cpus
    → IsRecord of.start of.floors of.tasks xs of.cpus
record_front of xs ys r = record {
  is_start = r.is_start;
  tasks_within = r.tasks_within;
  events_within = all_front (λ (event : Claimed). AllByRecursion (λ cpu. cpu < of.cpus) (touched event.entry.act)) xs ys
      r.events_within;
  claims_in_range = all_front ClaimInRange xs ys r.claims_in_range;
  charges_in_range = all_front ChargeInRange xs ys r.charges_in_range;
  times_rise = times_front of.start xs ys r.times_rise;
  lines_rise = lines_front 0 xs ys r.lines_rise;
}

module _ (knobs : KnobsView) (r : RecordView) (order : IsRecordInOrder r) where
  abbrev pub all : List Claimed
  all = events_of r

  abbrev pub of : Beginning
  of = beginning_of knobs r

  same_length : length all ≡ length r.events
  same_length = length-map r.events (with_claim r.claims r.nices r.charges (policy_of r))

  few : (last_line : ℕ) → last_line ≡ record_last_line r → last_line < 2 ^ 32 → length all < 2 ^ 32
  few last_line is line =
      let n = same_length in
      let most = events_few r.events order.events.from_one order.events.lines_rise in
      omega (arith, n, most, is, line)

  -- what comes next
  pub next_of : (from size last_line : ℕ) (window : List Claimed) (audit : WindowAudit)
      → last_line ≡ record_last_line r → last_line < 2 ^ 32
      → window ≡ take size (drop from all) → IsAuditOf of (take from all) audit
      → ComesNext of (take from all) window audit
  next_of from size last_line window audit line_is line is audited =
      let whole : (take from all ++ take size (drop from all)) ++ drop (from + size) all ≡ all =
      ap (λ xs. xs ++ drop (from + size) all) (join_take from size all) ∙ take-append-drop (from + size) all in
      record {
        audit_is = audited;
        is_record = subst (λ w. IsRecord r.start r.floors r.tasks (take from all ++ w) r.cpus) (sym is)
            (record_front of (take from all ++ take size (drop from all)) (drop (from + size) all)
            (subst (λ es. IsRecord r.start r.floors r.tasks es r.cpus) (sym whole) (record_in_order r order)));
        some = (let c = order.companion.cpus_in_limits.0 in omega (arith, c));
        few = (let c = order.companion.cpus_in_limits.1 in omega (arith, c));
        fit = (let a = length-take from all in let b = length-take size (drop from all) in
            let c = length-drop from all in let d = ap length is in let e = few last_line line_is line in
            omega (arith, a, b, c, d, e));
      }

  pub window_some : (from size : ℕ) (window : List Claimed) → from < length r.events → 0 < size
      → window ≡ take size (drop from all) → window ≢ []
  window_some from size window within some is none =
      let a = ap length (sym is ∙ none) in let b = length-take size (drop from all) in let c = length-drop from all in
      let n = same_length in
      absurd (omega (arith, a, b, c, n, within, some))

  -- it was seen
  pub seen_more : (from size count : ℕ) (window : List Claimed) (audit : WindowAudit)
      → window ≡ take size (drop from all) → count ≡ length window
      → IsAuditOf of (take from all ++ window) audit → IsAuditOf of (take (from + count) all) audit
  seen_more from size count window audit is counted audited =
      let n = length-take size (drop from all) in
      let d = ap length is in
      let same : window ≡ take count (drop from all) =
      is ∙ sym (take_min size (drop from all)) ∙ ap (λ k. take k (drop from all)) (omega (arith, n, d, counted)) in
      subst (λ es. IsAuditOf of es audit) (ap (λ w. take from all ++ w) same ∙ join_take from count all) audited

  -- a fault in it is the record's
  pub fault_of : (from size : ℕ) (window : List Claimed) (fault : FirstFault) → FaultStays → FaultIsFirstBad
      → window ≡ take size (drop from all)
      → IsFirstFault knobs r.start (start_machine r.start r.floors r.tasks) (take from all ++ window) fault.line
      (cause_view fault)
      → IsFaulty knobs r fault
  fault_of from size window fault stays first_bad is first =
      let whole : (take from all ++ window) ++ drop (from + size) all ≡ all =
      ap (λ w. (take from all ++ w) ++ drop (from + size) all) is
      ∙ ap (λ xs. xs ++ drop (from + size) all) (join_take from size all) ∙ take-append-drop (from + size) all in
      let told = subst (λ es. IsFirstFault knobs r.start (start_machine r.start r.floors r.tasks) es fault.line
      (cause_view fault)) whole
      (stays knobs r.start (start_machine r.start r.floors r.tasks) (take from all ++ window) (drop (from + size) all)
      fault.line (cause_view fault) first) in
      record {
        line = first_bad knobs r.start r.floors r.tasks all fault.line (cause_view fault) told;
        cause = told;
      }

  -- behind the last window
  pub whole_of : (from last_time last_line : ℕ) (audit : WindowAudit) → length r.events ≤ from
      → last_time ≡ record_last_time r → last_time < 2 ^ 64 → last_line ≡ record_last_line r → last_line < 2 ^ 32
      → knobs.drift ≤ greatest_setting
      → IsAuditOf of (take from all) audit → IsWhole of all audit
  whole_of from last_time last_line audit over time_is time line_is line drift audited = record {
    audit_is = subst (λ es. IsAuditOf of es audit) (take_all from all (let n = same_length in omega (arith, n, over)))
        audited;
    is_record = record_in_order r order;
    last = last_time;
    times = times_below r.claims r.nices r.charges (policy_of r) r.events last_time
        (λ j e w. let below = last_greatest (λ (event : Entry). event.time) r.events r.start order.events.never_falls j
        e w in omega (arith, below, time_is));
    last_fits = time;
    few_events = few last_line line_is line;
    drift = drift;
  }
