-- The policies before a line: as was told at the last birth of the pid above the line, or at the start.
-- Where a span of the pid starts above the line, the last such one starts at that birth just if it has no end above the
-- line.
use Rattle.std.proofs.Common.{◌≡◌, ℕ, zero, suc, ◌<◌, ◌≤◌, ◌||◌, ◌⊎◌, List, [], ◌∷◌, length, get_or, Bool, true, false}
use Rattle.std.proofs.Common.{true≢false, cond, eqb, leb, ltb, inl, inr, refl, sym, ap, ◌∙◌, subst, arith}
use Rattle.std.specs.Prelude.{All, pos}
use Rattle.std.proofs.lemmas.Bool.{cases_Bool, cases_lt, eqb-true, eq-eqb, ne_eqb}
use Rattle.std.proofs.lemmas.Bool.Decides.{nat_tests}
use Rattle.std.proofs.lemmas.List.{get_or_default}
use Rattle.cfs_model.specs.Claimed.{named_policy, policies_after, policies_before, policy_by}
use Rattle.cfs_model.specs.Machine.{put}
use Rattle.cfs_model.specs.declared.act.Act.{Act}
use Rattle.cfs_model.specs.declared.act.Act.TheVariants.{Switch, Wake, Born, Shift}
use Rattle.cfs_model.specs.declared.act.Entry.{Entry}
use Rattle.cfs_model.specs.declared.idle_line.IdleLine.{IdleLine}
use Rattle.companion_file.specs.Spans.{AreSpansOf, starts_span}
use Rattle.companion_file.specs.declared.idle_span.IdleSpan.{IdleSpan}
use Rattle.sched_record.specs.Join.{NamesBirth, is_birth_line, is_birth_of}
use Rattle.sched_record.specs.Policies.{EndsAtBirth, IsLastBefore, NoneBefore}
use Rattle.sched_record.proofs.Births.{Rise, birth_at, birth_found}
use Rattle.sched_record.proofs.Pairs.{pairs_tail}
use Rattle.sched_record.proofs.SpanEnds.{any_span, span_born, span_starts}
use Rattle.cfs_model.specs.declared.policy.Policy.{Policy}
use Rattle.cfs_model.specs.declared.policy.Policy.TheVariants.{Normal}

-- the line of the last birth of a pid above a line, and another number where there is none
abbrev pub last_birth : ℕ → List Entry → ℕ → ℕ → ℕ
last_birth from [] line pid = from
last_birth from (event ∷ events) line pid =
    cond (ltb event.line line) (last_birth (cond (is_birth_of pid event.act) event.line from) events line pid) from

-- what an event tells of a pid
after_is : (idles : List IdleLine) (policies : ℕ → Policy) (from line pid : ℕ) (act : Act)
    → policies pid ≡ named_policy idles from pid
    → policies_after idles policies line act pid ≡ named_policy idles (cond (is_birth_of pid act) line from) pid
unfolding put
after_is idles policies from line pid (Born cpu born nice) told =
    elim (cases_Bool (eqb pid born)) [
      | inl same ↦ (
          let is : pid ≡ born = eqb-true pid born same in
          rw (same, eq-eqb born pid (sym is)) (ap (λ p. named_policy idles line p) (sym is)))
      | inr other ↦ rw (other, ne_eqb born pid (λ e. true≢false (sym (eq-eqb pid born (sym e)) ∙ other))) told
    ]
after_is idles policies from line pid (Switch cpu prev prev_nice way next next_nice) told = told
after_is idles policies from line pid (Wake cpu woken nice) told = told
after_is idles policies from line pid (Shift orig dest moved nice) told = told

-- the policy is the one told at the last birth
told_at_birth : (idles : List IdleLine) (policies : ℕ → Policy) (from : ℕ) (events : List Entry) (line pid : ℕ)
    → policies pid ≡ named_policy idles from pid
    → policies_before idles policies events line pid ≡ named_policy idles (last_birth from events line pid) pid
told_at_birth idles policies from [] line pid told = told
told_at_birth idles policies from (event ∷ events) line pid told =
    by (ltb event.line line) refl
    (told_at_birth idles (policies_after idles policies event.line event.act)
    (cond (is_birth_of pid event.act) event.line from) events line pid
    (after_is idles policies from event.line pid event.act told))
  where
    by : (b : Bool) → ltb event.line line ≡ b
        → policies_before idles (policies_after idles policies event.line event.act) events line pid
        ≡ named_policy idles (last_birth (cond (is_birth_of pid event.act) event.line from) events line pid) pid
        → cond (ltb event.line line) (policies_before idles (policies_after idles policies event.line event.act) events
        line) policies pid
        ≡ named_policy idles (cond (ltb event.line line)
        (last_birth (cond (is_birth_of pid event.act) event.line from) events line pid) from) pid
    by true e rest = rw e rest
    by false e rest = rw e told

-- it stands above the line
birth_above_line : (from : ℕ) (events : List Entry) (line pid : ℕ) → from < line
    → last_birth from events line pid < line
birth_above_line from [] line pid lt = lt
birth_above_line from (event ∷ events) line pid lt =
    elim (cases_Bool (ltb event.line line)) [
      | inr isnt ↦ rw isnt lt
      | inl is_so ↦ rw is_so (birth_above_line (cond (is_birth_of pid event.act) event.line from) events line pid
          (chosen (is_birth_of pid event.act) (grind (arith, nat_tests))))
    ]
  where
    chosen : (b : Bool) → event.line < line → cond b event.line from < line
    chosen true low = low
    chosen false low = lt

-- a number that is not above the first line stays or rises
birth_rises : (from : ℕ) (events : List Entry) (line pid : ℕ) → Rise events → All (λ e. from < e.line) events
    → from ≤ last_birth from events line pid
birth_rises from [] line pid rise later = omega arith
birth_rises from (event ∷ events) line pid rise later =
    elim (cases_Bool (ltb event.line line)) [
      | inr isnt ↦ rw isnt (omega arith)
      | inl is_so ↦ rw is_so (chosen (is_birth_of pid event.act)
          (birth_rises event.line events line pid rest (λ k d h. rise 0 (suc k) d (omega arith) (omega arith)))
          (birth_rises from events line pid rest (λ k d h. later (suc k) d (omega arith))))
    ]
  where
    rest : Rise events
    rest = pairs_tail (λ (a b : Entry). a.line < b.line) event events rise

    chosen : (b : Bool) → event.line ≤ last_birth event.line events line pid → from ≤ last_birth from events line pid
        → from ≤ last_birth (cond b event.line from) events line pid
    chosen true up same =
        let first = later 0 event (omega arith) in
        omega (arith, first, up)
    chosen false up same = same

-- it is the last: no birth above the line comes behind it
birth_last : (from : ℕ) (events : List Entry) (line pid index : ℕ) (d : Entry) → Rise events → index < length events
    → (get_or events index d).line < line
    → is_birth_of pid (get_or events index d).act ≡ true
    → (get_or events index d).line ≤ last_birth from events line pid
birth_last from [] line pid index d rise h above birth = absurd (omega arith)
birth_last from (event ∷ events) line pid zero d rise h above birth =
    let up = birth_rises event.line events line pid (pairs_tail (λ (a b : Entry). a.line < b.line) event events rise)
    (λ k e has. rise 0 (suc k) e (omega arith) (omega arith)) in
    let is : ltb event.line line ≡ true = grind (arith, nat_tests) in
    rw (is, birth) up
birth_last from (event ∷ events) line pid (suc index) d rise h above birth =
    let low = rise 0 (suc index) d (omega arith) h in
    let lt : event.line < line = omega (arith, low, above) in
    let is : ltb event.line line ≡ true = grind (arith, nat_tests) in
    rw is
    (birth_last (cond (is_birth_of pid event.act) event.line from) events line pid index d
    (pairs_tail (λ (a b : Entry). a.line < b.line) event events rise)
    (omega arith) above birth)

-- it is a birth, where it isn't the number for none
birth_or_none : (from : ℕ) (events : List Entry) (line pid : ℕ)
    → (last_birth from events line pid ≡ from) ⊎ (is_birth_line events (last_birth from events line pid) pid ≡ true)
birth_or_none from [] line pid = inl refl
birth_or_none from (event ∷ events) line pid =
    elim (cases_Bool (ltb event.line line)) [
      | inr isnt ↦ inl (rw isnt refl)
      | inl is_so ↦ subst (λ m. (m ≡ from) ⊎ (is_birth_line (event ∷ events) m pid ≡ true))
          (sym (ap (λ b. cond b (last_birth (cond (is_birth_of pid event.act) event.line from) events line pid) from)
          is_so))
          (chosen (is_birth_of pid event.act) refl (birth_or_none event.line events line pid)
          (birth_or_none from events line pid))
    ]
  where
    there : (m : ℕ) → is_birth_line events m pid ≡ true → is_birth_line (event ∷ events) m pid ≡ true
    there m is =
        let found = birth_found events m pid is in
        birth_at (event ∷ events) m pid (suc found.0) event (let within = found.1.within in
        omega (arith, within)) (found.1.line_is event) (found.1.birth event)

    here : is_birth_of pid event.act ≡ true → is_birth_line (event ∷ events) event.line pid ≡ true
    here birth = birth_at (event ∷ events) event.line pid 0 event (omega arith) refl birth

    chosen : (b : Bool) → is_birth_of pid event.act ≡ b
        → (last_birth event.line events line pid ≡ event.line)
        ⊎ (is_birth_line events (last_birth event.line events line pid) pid ≡ true)
        → (last_birth from events line pid ≡ from) ⊎ (is_birth_line events (last_birth from events line pid) pid ≡ true)
        → (last_birth (cond (is_birth_of pid event.act) event.line from) events line pid ≡ from)
        ⊎ (is_birth_line (event ∷ events) (last_birth (cond (is_birth_of pid event.act) event.line from) events line
        pid) pid ≡ true)
    chosen true e now later =
        subst (λ b. (last_birth (cond b event.line from) events line pid ≡ from)
        ⊎ (is_birth_line (event ∷ events) (last_birth (cond b event.line from) events line pid) pid ≡ true)) (sym e)
        (elim now [
          | inl none ↦ inr (ap (λ m. is_birth_line (event ∷ events) m pid) none ∙ here e)
          | inr is ↦ inr (there (last_birth event.line events line pid) is)
        ])
    chosen false e now later =
        subst (λ b. (last_birth (cond b event.line from) events line pid ≡ from)
        ⊎ (is_birth_line (event ∷ events) (last_birth (cond b event.line from) events line pid) pid ≡ true)) (sym e)
        (elim later [
          | inl none ↦ inl none
          | inr is ↦ inr (there (last_birth from events line pid) is)
        ])

-- a birth line above the line isn't behind the last
pub birth_line_last : (from : ℕ) (events : List Entry) (line pid birth : ℕ) → Rise events → birth < line
    → is_birth_line events birth pid ≡ true
    → birth ≤ last_birth from events line pid
birth_line_last from events line pid birth rise above is =
    let found = birth_found events birth pid is in
    let at : Entry = record { line = 0; time = 0; act = Wake 0 0 (pos 0) } in
    let line_is = found.1.line_is at in
    let le = birth_last from events line pid found.0 at rise found.1.within (omega (arith, line_is, above))
    (found.1.birth at) in
    omega (arith, line_is, le)

-- where no span of the pid starts above the line, its task isn't of the idle policy
pub not_idle_before : (idles : List IdleLine) (spans : List IdleSpan) (policies : ℕ
    → Policy) (events : List Entry) (line pid : ℕ) → AreSpansOf idles spans
    → policies pid ≡ named_policy idles 0 pid → 0 < line → NoneBefore spans line pid
    → policies_before idles policies events line pid ≡ Normal
not_idle_before idles spans policies events line pid told start some none =
    let birth = last_birth 0 events line pid in
    let above = birth_above_line 0 events line pid some in
    let none_starts : starts_span spans birth pid ≡ false = elim (cases_Bool (starts_span spans birth pid)) [
      | inr isnt ↦ isnt
      | inl is_so ↦ (
          let at = any_span spans birth pid is_so in
          let low = none at.0 at.1 at.2 at.4 in
          let starts = at.3 in
          absurd (omega (arith, low, starts, above)))
    ] in
    told_at_birth idles policies 0 events line pid start ∙ ap policy_by (told.starts birth pid ∙ none_starts)

-- where one does, it is just where the last one doesn't end above the line
pub idle_before : (idles : List IdleLine) (spans : List IdleSpan) (policies : ℕ
    → Policy) (events : List Entry) (line pid index : ℕ) (s : IdleSpan) → Rise events
    → All (λ e. 0 < e.line) events
    → AreSpansOf idles spans → All (NamesBirth events) idles → All (EndsAtBirth events) spans
    → policies pid ≡ named_policy idles 0 pid → 0 < line
    → IsLastBefore spans line pid index → s ≡ get_or spans index s
    → policies_before idles policies events line pid ≡ policy_by (eqb s.until 0 || leb line s.until)
idle_before idles spans policies events line pid index s rise from_one told born ends start some last is =
    let birth = last_birth 0 events line pid in
    let above = birth_above_line 0 events line pid some in
    let within = last.within in
    let pid_is : s.pid ≡ pid = ap (λ (x : IdleSpan). x.pid) is ∙ last.named s in
    let starts : s.from < line = (let lt = last.above s in let e = ap (λ (x : IdleSpan). x.from) is in
    omega (arith, lt, e)) in
    let end : EndsAtBirth events s = subst (EndsAtBirth events) (sym is) (ends index s within) in
    let here : starts_span spans s.from pid ≡ true =
    ap (λ p. starts_span spans s.from p) (sym pid_is) ∙ ap (λ (x : IdleSpan). starts_span spans x.from x.pid) is
    ∙ span_starts spans index s within in
    let least : s.from ≤ birth =
    elim (cases_lt 0 s.from) [
      | inr none ↦ omega (arith, none)
      | inl more ↦ birth_line_last 0 events line pid s.from rise starts
          (span_born events idles spans s.from pid born told more here)
    ] in
    told_at_birth idles policies 0 events line pid start ∙ ap policy_by (told.starts birth pid
    ∙ (elim (cases_Bool (eqb s.until 0 || leb line s.until)) [
      | inl endless ↦ (
          let most : birth ≤ s.from =
          elim (birth_or_none 0 events line pid) [
            | inl none ↦ omega (arith, none)
            | inr is_birth ↦ elim (cases_lt s.from birth) [
              | inr ge ↦ ge
              | inl behind ↦ (
                  let first = end.first birth behind (ap (λ p. is_birth_line events birth p) pid_is ∙ is_birth) in
                  let has = first.0 in
                  let low = first.1 in
                  let out : (eqb s.until 0 || leb line s.until) ≡ false = grind (arith, nat_tests) in
                  absurd (true≢false (sym endless ∙ out)))
            ]
          ] in
          let same : birth ≡ s.from = omega (arith, most, least) in
          ap (λ l. starts_span spans l pid) same ∙ here ∙ sym endless)
      | inr over ↦ (
          let has : (0 < s.until) × (s.until < line) = closed s.until over in
          let found = end.found has.0 in
          let later = birth_line_last 0 events line pid s.until rise has.1
          (ap (λ p. is_birth_line events s.until p) (sym pid_is) ∙ found.1) in
          let behind = found.0 in
          elim (cases_Bool (starts_span spans birth pid)) [
            | inr isnt ↦ isnt ∙ sym over
            | inl is_so ↦ (
                let at = any_span spans birth pid is_so in
                let line_is = at.3 in
                let le = last.last at.0 at.1 at.2 at.4 (omega (arith, line_is, above)) in
                absurd (not_behind at.0 at.1 le at.2 at.4 (omega (arith, line_is, later, behind))))
          ])
    ]))
  where
    closed : (n : ℕ) → (eqb n 0 || leb line n) ≡ false → (0 < n) × (n < line)
    closed n over = (grind (arith, nat_tests), grind (arith, nat_tests))

    not_behind : (k : ℕ) (d : IdleSpan) → k ≤ index → k < length spans → (get_or spans k d).pid ≡ pid
        → s.from < (get_or spans k d).from → ⊥
    not_behind k d le h named less =
        let same = ap (λ (x : IdleSpan). x.from) (is ∙ get_or_default spans index s d last.within) in
        elim (cases_lt k index) [
          | inr ge ↦ (
              let e : k ≡ index = omega (arith, le, ge) in
              let at = ap (λ n. (get_or spans n d).from) e in
              absurd (omega (arith, at, same, less)))
          | inl lt ↦ (
              let up = (told.rise k index d lt last.within).lines (named ∙ sym (last.named d)) in
              absurd (omega (arith, up, same, less)))
        ]
