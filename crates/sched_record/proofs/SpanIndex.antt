-- Spans by rising pid, and at one pid by rising start: those before one that starts at a line stand before an index.
use Rattle.std.proofs.Common.{◌≡◌, ℕ, ◌-◌, ◌<◌, ◌≤◌, ◌&&◌, ◌||◌, List, length, get_or, true, false, true≢false, eqb}
use Rattle.std.proofs.Common.{ltb, inl, inr, sym, ap, ◌∙◌, arith}
use Rattle.std.specs.List.{AllPairs}
use Rattle.std.specs.List.Sorted.{IsPartitionedBy}
use Rattle.std.proofs.lemmas.Bool.{cases_Bool, cases_order, cases_lt, eq-eqb, eqb-true, and_parts}
use Rattle.std.proofs.lemmas.Bool.Decides.{nat_tests}
use Rattle.std.proofs.lemmas.List.{get_or_default}
use Rattle.std.proofs.lemmas.List.Folds.{list_any_none, list_any_at}
use Rattle.companion_file.specs.Spans.{SpanRises, starts_span}
use Rattle.companion_file.specs.declared.idle_span.IdleSpan.{IdleSpan}
use Rattle.sched_record.specs.Policies.{IsLastBefore, IsSpanIndex, NoneBefore, stands_before}

before_pid : (line pid p f : ℕ) → (ltb p pid || (eqb p pid && ltb f line)) ≡ true → p ≤ pid
before_pid line pid p f e = grind (arith, nat_tests)

before_from : (line pid p f : ℕ) → (ltb p pid || (eqb p pid && ltb f line)) ≡ true → p ≡ pid → f < line
before_from line pid p f e same = grind (arith, nat_tests)

is_before : (line pid p f : ℕ) → p ≤ pid → (p ≡ pid → f < line) → (ltb p pid || (eqb p pid && ltb f line)) ≡ true
is_before line pid p f le lt =
    elim (cases_lt p pid) [
      | inl less ↦ grind (arith, nat_tests)
      | inr ge ↦ (let same : p ≡ pid = omega arith in let low = lt same in grind (arith, nat_tests))
    ]

-- no span stands before it behind one that doesn't
pub parted : (spans : List IdleSpan) (line pid : ℕ) → AllPairs SpanRises spans
    → IsPartitionedBy (stands_before line pid) spans
parted spans line pid rise i j d le h passes =
    elim (cases_lt i j) [
      | inr ge ↦ (let same : j ≡ i = omega arith in ap (λ k. stands_before line pid (get_or spans k d)) (sym same)
          ∙ passes)
      | inl lt ↦ (
          let rises = rise i j d lt h in
          let a = get_or spans i d in
          let b = get_or spans j d in
          let pids = rises.pids in
          let below = before_pid line pid b.pid b.from passes in
          is_before line pid a.pid a.from (omega (arith, pids, below))
          (λ same.
          let equal : b.pid ≡ pid = omega (arith, pids, below, same) in
          let less = rises.lines (same ∙ sym equal) in
          let low = before_from line pid b.pid b.from passes equal in
          omega (arith, less, low)))
    ]

-- what stands at the index or behind it
behind_pid : (spans : List IdleSpan) (line pid index k : ℕ) (d : IdleSpan) → IsSpanIndex spans line pid index
    → index ≤ k → k < length spans
    → pid ≤ (get_or spans k d).pid
behind_pid spans line pid index k d at le h =
    let s = get_or spans k d in
    elim (cases_lt s.pid pid) [
      | inr ge ↦ ge
      | inl lt ↦ absurd (at.behind k d le h (is_before line pid s.pid s.from (omega arith)
          (λ same. absurd (omega arith))))
    ]

behind_from : (spans : List IdleSpan) (line pid index k : ℕ) (d : IdleSpan) → IsSpanIndex spans line pid index
    → index ≤ k → k < length spans
    → (get_or spans k d).pid ≡ pid → line ≤ (get_or spans k d).from
behind_from spans line pid index k d at le h same =
    let s = get_or spans k d in
    elim (cases_lt s.from line) [
      | inr ge ↦ ge
      | inl lt ↦ absurd (at.behind k d le h (is_before line pid s.pid s.from (omega (arith, same)) (λ e. lt)))
    ]

-- a span of the pid that starts on the line stands at the index
pub has_span_at : (spans : List IdleSpan) (line pid index : ℕ) (d : IdleSpan) → index < length spans
    → (get_or spans index d).pid ≡ pid
    → (get_or spans index d).from ≡ line → starts_span spans line pid ≡ true
has_span_at spans line pid index d h named starts =
    list_any_at (λ (s : IdleSpan). eqb s.from line && eqb s.pid pid) spans index d h
    (ap (λ b. b && eqb (get_or spans index d).pid pid) (eq-eqb _ _ starts) ∙ eq-eqb _ _ named)

-- and where another stands there, none does
pub has_no_span : (spans : List IdleSpan) (line pid index : ℕ) → AllPairs SpanRises spans
    → IsSpanIndex spans line pid index
    → ((d : IdleSpan) → index < length spans → (get_or spans index d).pid ≡ pid → (get_or spans index d).from ≡ line
    → ⊥)
    → starts_span spans line pid ≡ false
has_no_span spans line pid index rise at other =
    list_any_none (λ (s : IdleSpan). eqb s.from line && eqb s.pid pid) spans each
  where
    apart : (k : ℕ) (d : IdleSpan) → k < length spans → (get_or spans k d).from ≡ line → (get_or spans k d).pid ≡ pid
        → ⊥
    apart k d h starts named =
        elim (cases_order k index) [
          | inl here ↦ (
              let e = ap (λ n. get_or spans n d) here in
              other d (omega arith) (sym (ap (λ (s : IdleSpan). s.pid) e) ∙ named)
              (sym (ap (λ (s : IdleSpan). s.from) e) ∙ starts))
          | inr (inl before) ↦ (
              let low = before_from line pid _ _ (at.before k d before) named in
              absurd (omega (arith, low, starts)))
          | inr (inr behind) ↦ (
              let within : index < length spans = omega arith in
              let rises = rise index k d behind h in
              let pids = rises.pids in
              let least = behind_pid spans line pid index index d at (omega arith) within in
              let same : (get_or spans index d).pid ≡ pid = omega (arith, pids, least, named) in
              let less = rises.lines (same ∙ sym named) in
              let low = behind_from spans line pid index index d at (omega arith) within same in
              absurd (omega (arith, less, low, starts)))
        ]

    each : (k : ℕ) (d : IdleSpan) → k < length spans
        → (eqb (get_or spans k d).from line && eqb (get_or spans k d).pid pid) ≡ false
    each k d h =
        elim (cases_Bool (eqb (get_or spans k d).from line && eqb (get_or spans k d).pid pid)) [
          | inr isnt ↦ isnt
          | inl is_so ↦ (
              let parts = and_parts (eqb (get_or spans k d).from line) (eqb (get_or spans k d).pid pid) is_so in
              absurd (apart k d h (eqb-true _ _ parts.0) (eqb-true _ _ parts.1)))
        ]

-- so whether one starts there is said by the span at the index
pub span_at : (spans : List IdleSpan) (line pid index : ℕ) (d : IdleSpan) → AllPairs SpanRises spans
    → IsSpanIndex spans line pid index
    → index < length spans → (eqb (get_or spans index d).pid pid && eqb (get_or spans index d).from line) ≡ starts_span
    spans line pid
span_at spans line pid index d rise at h =
    let s = get_or spans index d in
    elim (cases_Bool (eqb s.pid pid && eqb s.from line)) [
      | inl is_so ↦ (
          let parts = and_parts (eqb s.pid pid) (eqb s.from line) is_so in
          is_so ∙ sym (has_span_at spans line pid index d h (eqb-true _ _ parts.0) (eqb-true _ _ parts.1)))
      | inr isnt ↦ isnt ∙ sym (has_no_span spans line pid index rise at (λ e within named starts.
          let same = get_or_default spans index d e h in
          let both : (eqb s.pid pid && eqb s.from line) ≡ true =
          ap (λ b. b && eqb s.from line) (eq-eqb _ _ (ap (λ (x : IdleSpan). x.pid) same ∙ named))
          ∙ eq-eqb _ _ (ap (λ (x : IdleSpan). x.from) same ∙ starts) in
          absurd (true≢false (sym both ∙ isnt))))
    ]

-- the span before the index, where it is of the pid, is the last that starts above the line
pub last_before : (spans : List IdleSpan) (line pid index : ℕ) (d : IdleSpan) → IsSpanIndex spans line pid index
    → 0 < index
    → (get_or spans (index - 1) d).pid ≡ pid → IsLastBefore spans line pid (index - 1)
last_before spans line pid index d at some named =
    let within = at.within in
    let same : (e : IdleSpan) → (get_or spans (index - 1) e).pid ≡ pid =
    λ e. ap (λ (s : IdleSpan). s.pid) (get_or_default spans (index - 1) e d (omega (arith, within))) ∙ named in
    record {
      within = omega (arith, within, some);
      named = same;
      above = λ e. before_from line pid _ _ (at.before (index - 1) e (omega (arith, some))) (same e);
      last = λ k e h is starts.
          elim (cases_lt k index) [
            | inl lt ↦ omega (arith, some)
            | inr ge ↦ (let low = behind_from spans line pid index k e at ge h is in
                absurd (omega (arith, low, starts)))
          ];
    }

-- where it isn't, none does
pub none_before : (spans : List IdleSpan) (line pid index : ℕ) → AllPairs SpanRises spans
    → IsSpanIndex spans line pid index
    → ((d : IdleSpan) → 0 < index → (get_or spans (index - 1) d).pid ≡ pid → ⊥) → NoneBefore spans line pid
none_before spans line pid index rise at other k d h named =
    elim (cases_lt k index) [
      | inr ge ↦ behind_from spans line pid index k d at ge h named
      | inl lt ↦ (
          let below = before_pid line pid _ _ (at.before (index - 1) d (omega arith)) in
          let within = at.within in
          elim (cases_lt k (index - 1)) [
            | inl less ↦ (
                let pids = (rise k (index - 1) d less (omega (arith, within))).pids in
                absurd (other d (omega arith) (omega (arith, pids, below, named))))
            | inr last ↦ (
                let is : k ≡ index - 1 = omega arith in
                absurd (other d (omega arith) (sym (ap (λ n. (get_or spans n d).pid) is) ∙ named)))
          ])
    ]
