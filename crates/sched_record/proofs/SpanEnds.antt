-- The spans' ends along the events: where a task is born, of the spans of its pid that start above just the last can be
-- without an end, since a span that isn't of the start begins at a birth, which ended those before it.
use Rattle.std.proofs.Common.{
  ◌≡◌,
  ℕ,
  zero,
  suc,
  ◌+◌,
  ◌<◌,
  ◌&&◌,
  List,
  [],
  ◌∷◌,
  length,
  get_or,
  take,
  true,
  false,
  true≢false,
  eqb,
  inl,
  inr,
  refl,
  sym,
  ap,
  ◌∙◌,
  subst,
  arith,
  Option,
  Some,
  None,
}
use Rattle.std.specs.Prelude.{All, unwrap_or}
use Rattle.std.specs.List.{AllPairs}
use Rattle.std.proofs.lemmas.Bool.{cases_Bool, cases_order, cases_lt, eqb-true, eq-eqb, and_parts}
use Rattle.std.proofs.lemmas.List.{get_or-take, length-take-le}
use Rattle.std.proofs.lemmas.List.Folds.{Any-from_list_any, list_any_at}
use Rattle.cfs_model.specs.Lives.{begun_by}
use Rattle.cfs_model.specs.declared.act.Act.{Act}
use Rattle.cfs_model.specs.declared.act.Act.TheVariants.{Switch, Wake, Born, Shift}
use Rattle.cfs_model.specs.declared.act.Entry.{Entry}
use Rattle.cfs_model.specs.declared.idle_line.IdleLine.{IdleLine}
use Rattle.companion_file.specs.Spans.{AreSpansOf, ended, starts_span}
use Rattle.companion_file.specs.declared.idle_span.IdleSpan.{IdleSpan}
use Rattle.companion_file.proofs.EndedSpans.{ended_length}
use Rattle.sched_record.specs.Join.{NamesBirth, is_birth_line, is_birth_of}
use Rattle.sched_record.specs.Policies.{EndsAtBirth, EndsLast, IsLastBefore}
use Rattle.sched_record.proofs.Births.{birth_above, birth_at, birth_kept, birth_new, birth_so_far}

-- a span that isn't of the start begins at a birth
pub span_born : (events : List Entry) (idles : List IdleLine) (spans : List IdleSpan) (line pid : ℕ)
    → All (NamesBirth events) idles
    → AreSpansOf idles spans → 0 < line → starts_span spans line pid ≡ true → is_birth_line events line pid ≡ true
span_born events idles spans line pid born told some starts =
    let any = Any-from_list_any (λ (idle : IdleLine). eqb idle.line line && eqb idle.pid pid) idles
    (told.starts line pid ∙ starts) in
    let item = any.1 in
    let parts = and_parts (eqb item.line line) (eqb item.pid pid) any.4 in
    let line_is = eqb-true item.line line parts.0 in
    let pid_is = eqb-true item.pid pid parts.1 in
    let names : NamesBirth events item = subst (NamesBirth events) any.3 (born any.0 item any.2) in
    sym (ap (λ l. is_birth_line events l item.pid) line_is ∙ ap (λ p. is_birth_line events line p) pid_is)
    ∙ names (omega (arith, line_is, some))

-- where a span that starts at a line stands
pub any_span : (spans : List IdleSpan) (line pid : ℕ) → starts_span spans line pid ≡ true
    → (k : ℕ) × (d : IdleSpan) × (k < length spans) × ((get_or spans k d).from ≡ line) × ((get_or spans k d).pid ≡ pid)
any_span spans line pid starts =
    let any = Any-from_list_any (λ (span : IdleSpan). eqb span.from line && eqb span.pid pid) spans starts in
    let item = any.1 in
    let parts = and_parts (eqb item.from line) (eqb item.pid pid) any.4 in (
      any.0,
      item,
      any.2,
      ap (λ (s : IdleSpan). s.from) any.3 ∙ eqb-true item.from line parts.0,
      ap (λ (s : IdleSpan). s.pid) any.3 ∙ eqb-true item.pid pid parts.1,
    )

-- the span at an index starts where it does
pub span_starts : (spans : List IdleSpan) (k : ℕ) (d : IdleSpan) → k < length spans
    → starts_span spans (get_or spans k d).from (get_or spans k d).pid ≡ true
span_starts spans k d h =
    let s = get_or spans k d in
    list_any_at (λ (span : IdleSpan). eqb span.from s.from && eqb span.pid s.pid) spans k d h (both s.from s.pid)
  where
    both : (a b : ℕ) → (eqb a a && eqb b b) ≡ true
    both a b = rw (eq-eqb a a refl, eq-eqb b b refl) refl

-- a span that keeps its end
kept : (events : List Entry) (i : ℕ) (d : Entry) (s : IdleSpan) → AllPairs (λ a b. a.line < b.line) events
    → i < length events
    → EndsAtBirth (take i events) s → (is_birth_of s.pid (get_or events i d).act ≡ true
    → s.from < (get_or events i d).line → 0 < s.until)
    → EndsAtBirth (take (i + 1) events) s
kept events i d s rise h ends known =
    record {
      found = λ some. (let was = ends.found some in (was.0, birth_kept events i s.until s.pid was.1));
      first = λ line above birth.
          elim (cases_Bool (is_birth_line (take i events) line s.pid)) [
            | inl before ↦ ends.first line above before
            | inr new ↦ (
                let here = birth_new events i line s.pid d h birth new in
                let line_is = here.0 in
                let some = known here.1 (omega (arith, line_is, above)) in
                let up = birth_above events i s.until s.pid d rise h (ends.found some).1 in
                (some, omega (arith, line_is, up)))
          ];
    }

-- a span that ends
ends_here : (events : List Entry) (i : ℕ) (d : Entry) (s : IdleSpan) → i < length events → EndsAtBirth (take i events) s
    → s.until ≡ 0
    → is_birth_of s.pid (get_or events i d).act ≡ true → s.from < (get_or events i d).line
    → EndsAtBirth (take (i + 1) events) (record { pid = s.pid; from = s.from; until = (get_or events i d).line })
ends_here events i d s h ends endless birth above =
    record {
      found = λ some. (above, now);
      first = λ line start is.
          elim (cases_Bool (is_birth_line (take i events) line s.pid)) [
            | inl before ↦ (let was = (ends.first line start before).0 in absurd (omega (arith, was, endless)))
            | inr new ↦ (
                let line_is = (birth_new events i line s.pid d h is new).0 in
                (omega (arith, above), omega (arith, line_is)))
          ];
    }
  where
    now : is_birth_line (take (i + 1) events) (get_or events i d).line s.pid ≡ true
    now =
        let size = length-take-le (i + 1) events (omega arith) in
        let at = get_or-take (i + 1) events i d (omega arith) in
        birth_at (take (i + 1) events) (get_or events i d).line s.pid i d (omega (arith, size))
        (ap (λ (e : Entry). e.line) at)
        (ap (λ (e : Entry). is_birth_of s.pid e.act) at ∙ birth)

-- the span at the index that ends, and the others
ended_at : (spans : List IdleSpan) (index line k : ℕ) (d : IdleSpan) → k ≡ index → k < length spans
    → get_or (ended spans index line) k d ≡ record {
      pid = (get_or spans k d).pid;
      from = (get_or spans k d).from;
      until = line;
    }
ended_at [] index line k d e h = absurd (omega arith)
ended_at (x ∷ spans) zero line zero d e h = refl
ended_at (x ∷ spans) zero line (suc k) d e h = absurd (omega arith)
ended_at (x ∷ spans) (suc index) line zero d e h = absurd (omega arith)
ended_at (x ∷ spans) (suc index) line (suc k) d e h = ended_at spans index line k d (omega arith) (omega arith)

ended_other : (spans : List IdleSpan) (index line k : ℕ) (d : IdleSpan) → (k ≡ index → ⊥)
    → get_or (ended spans index line) k d ≡ get_or spans k d
ended_other [] index line k d e = refl
ended_other (x ∷ spans) zero line zero d e = absurd (e refl)
ended_other (x ∷ spans) zero line (suc k) d e = refl
ended_other (x ∷ spans) (suc index) line zero d e = refl
ended_other (x ∷ spans) (suc index) line (suc k) d e = ended_other spans index line k d (λ same. e (ap suc same))

-- one span more has no end
pub forgotten_more : (old new : List IdleSpan) (index : ℕ) → new ≡ ended old index 0 → index < length old
    → ((k : ℕ) (d : IdleSpan) → k < index → (get_or old k d).until ≡ 0) → (k : ℕ) (d : IdleSpan) → k < index + 1
    → (get_or new k d).until ≡ 0
forgotten_more old new index same h forgotten k d lt =
    let at = ap (λ (spans : List IdleSpan). (get_or spans k d).until) same in
    elim (cases_lt k index) [
      | inl before ↦ (
          let other = ap (λ (s : IdleSpan). s.until) (ended_other old index 0 k d
          (λ e. absurd (omega (arith, e, before)))) in
          at ∙ other ∙ forgotten k d before)
      | inr ge ↦ at ∙ ap (λ (s : IdleSpan). s.until)
          (ended_at old index 0 k d (omega (arith, lt, ge)) (omega (arith, lt, h)))
    ]

-- an event that is no birth behind the events so far
ends_still : (events : List Entry) (spans : List IdleSpan) (i : ℕ) (d : Entry)
    → AllPairs (λ a b. a.line < b.line) events → i < length events
    → ((other : ℕ) → is_birth_of other (get_or events i d).act ≡ false) → All (EndsAtBirth (take i events)) spans
    → All (EndsAtBirth (take (i + 1) events)) spans
ends_still events spans i d rise h bears ends k s has =
    kept events i d (get_or spans k s) rise h (ends k s has)
    (λ birth above. absurd (true≢false (sym birth ∙ bears (get_or spans k s).pid)))

-- a span before the last of its pid has an end
has_end : (events : List Entry) (idles : List IdleLine) (spans : List IdleSpan) (i pid index k : ℕ) (d : Entry)
    (s : IdleSpan)
    → AllPairs (λ a b. a.line < b.line) events → All (NamesBirth events) idles → AreSpansOf idles spans
    → i < length events
    → All (EndsAtBirth (take i events)) spans → IsLastBefore spans (get_or events i d).line pid index → k < index
    → (get_or spans k s).pid ≡ pid
    → 0 < (get_or spans k s).until
has_end events idles spans i pid index k d s rise born told h ends last before named =
    let within = last.within in
    let same = last.named s in
    let rises = told.rise k index s before within in
    let less = rises.lines (named ∙ sym same) in
    let start = (get_or spans index s).from in
    let birth = span_born events idles spans start (get_or spans index s).pid born told (omega (arith, less))
    (span_starts spans index s within) in
    let so_far = birth_so_far events i start (get_or spans index s).pid d rise h birth (last.above s) in
    let here : is_birth_line (take i events) start (get_or spans k s).pid ≡ true =
    ap (λ p. is_birth_line (take i events) start p) (named ∙ sym same) ∙ so_far in
    ((ends k s (omega (arith, within, before))).first start less here).0

-- the birth of a task behind the events so far
ends_more : (events : List Entry) (idles : List IdleLine) (old new : List IdleSpan) (i pid : ℕ) (d : Entry)
    → AllPairs (λ a b. a.line < b.line) events → All (NamesBirth events) idles → AreSpansOf idles old
    → i < length events
    → ((other : ℕ) → is_birth_of other (get_or events i d).act ≡ eqb pid other)
    → All (EndsAtBirth (take i events)) old → EndsLast old (get_or events i d).line pid new
    → All (EndsAtBirth (take (i + 1) events)) new
ends_more events idles old new i pid d rise born told h bears ends (inl (none, same)) =
    subst (All (EndsAtBirth (take (i + 1) events))) (sym same)
    (λ k s has. kept events i d (get_or old k s) rise h (ends k s has)
    (λ birth above.
    let low = none k s has (sym (eqb-true _ _ (sym (bears (get_or old k s).pid) ∙ birth))) in
    absurd (omega (arith, low, above))))
ends_more events idles old new i pid d rise born told h bears ends (inr (inl (index, last, some, same))) =
    subst (All (EndsAtBirth (take (i + 1) events))) (sym same)
    (λ k s has. kept events i d (get_or old k s) rise h (ends k s has)
    (λ birth above.
    let named : (get_or old k s).pid ≡ pid = sym (eqb-true _ _ (sym (bears (get_or old k s).pid) ∙ birth)) in
    let le = last.last k s has named above in
    elim (cases_lt k index) [
      | inl lt ↦ has_end events idles old i pid index k d s rise born told h ends last lt named
      | inr ge ↦ (
          let is : index ≡ k = omega (arith, le, ge) in
          let at = ap (λ n. (get_or old n s).until) is in
          let until = some s in
          omega (arith, at, until))
    ]))
ends_more events idles old new i pid d rise born told h bears ends (inr (inr (index, last, endless, same))) =
    subst (All (EndsAtBirth (take (i + 1) events))) (sym same) each
  where
    line : ℕ
    line = (get_or events i d).line

    each : All (EndsAtBirth (take (i + 1) events)) (ended old index line)
    each k s has' =
        let size = ended_length old index line in
        let has : k < length old = omega (arith, size, has') in
        let named = last.named s in
        elim (cases_order k index) [
          | inl is ↦ (
              let pid_is : (get_or old k s).pid ≡ pid = ap (λ n. (get_or old n s).pid) is ∙ named in
              subst (EndsAtBirth (take (i + 1) events)) (sym (ended_at old index line k s is has))
              (ends_here events i d (get_or old k s) h (ends k s has) (ap (λ n. (get_or old n s).until) is ∙ endless s)
              (bears (get_or old k s).pid ∙ eq-eqb _ _ (sym pid_is))
              (let above = last.above s in let at = ap (λ n. (get_or old n s).from) is in omega (arith, above, at))))
          | inr apart ↦ subst (EndsAtBirth (take (i + 1) events)) (sym (ended_other old index line k s (elim apart [
            | inl before ↦ (λ e. absurd (omega (arith, e)))
            | inr behind ↦ (λ e. absurd (omega (arith, e)))
          ])))
              (kept events i d (get_or old k s) rise h (ends k s has)
              (λ birth above.
              let pid_is : (get_or old k s).pid ≡ pid = sym (eqb-true _ _ (sym (bears (get_or old k s).pid) ∙ birth)) in
              elim apart [
                | inl before ↦ has_end events idles old i pid index k d s rise born told h ends last before pid_is
                | inr behind ↦ (let le = last.last k s has pid_is above in absurd (omega (arith, le)))
              ]))
        ]

-- an event bears just the task that begins with it
bears_begun : (act : Act) (pid other : ℕ) → begun_by act ≡ Some pid → is_birth_of other act ≡ eqb pid other
bears_begun (Born cpu born nice) pid other begins = ap (λ (o : Option ℕ). eqb (unwrap_or o 0) other) begins
bears_begun (Switch cpu prev prev_nice way next next_nice) pid other begins = absurd cc
bears_begun (Wake cpu woken nice) pid other begins = absurd cc
bears_begun (Shift orig dest moved nice) pid other begins = absurd cc

bears_nobody : (act : Act) (other : ℕ) → begun_by act ≡ None → is_birth_of other act ≡ false
bears_nobody (Born cpu born nice) other begins = absurd cc
bears_nobody (Switch cpu prev prev_nice way next next_nice) other begins = refl
bears_nobody (Wake cpu woken nice) other begins = refl
bears_nobody (Shift orig dest moved nice) other begins = refl

-- the same of an event with which a task begins
pub ends_born : (events : List Entry) (idles : List IdleLine) (old new : List IdleSpan) (i pid : ℕ) (d event : Entry)
    → AllPairs (λ a b. a.line < b.line) events → All (NamesBirth events) idles → AreSpansOf idles old
    → i < length events → get_or events i d ≡ event → begun_by event.act ≡ Some pid
    → All (EndsAtBirth (take i events)) old → EndsLast old event.line pid new
    → All (EndsAtBirth (take (i + 1) events)) new
ends_born events idles old new i pid d event rise born told h at begins ends step =
    ends_more events idles old new i pid d rise born told h
    (λ other. ap (λ (e : Entry). is_birth_of other e.act) at ∙ bears_begun event.act pid other begins) ends
    (subst (λ e. EndsLast old e.line pid new) (sym at) step)

-- and of one with which none does
pub ends_other : (events : List Entry) (spans : List IdleSpan) (i : ℕ) (d event : Entry)
    → AllPairs (λ a b. a.line < b.line) events → i < length events → get_or events i d ≡ event
    → begun_by event.act ≡ None → All (EndsAtBirth (take i events)) spans
    → All (EndsAtBirth (take (i + 1) events)) spans
ends_other events spans i d event rise h at begins ends =
    ends_still events spans i d rise h
    (λ other. ap (λ (e : Entry). is_birth_of other e.act) at ∙ bears_nobody event.act other begins) ends
