-- Births among events whose lines rise: those of the events up to one, and the last one above a line.
use Rattle.std.proofs.Common.{◌≡◌, ℕ, ◌+◌, ◌<◌, ◌&&◌, ◌||◌, List, length, get_or, take, Bool, true, false, eqb, inl}
use Rattle.std.proofs.Common.{inr, sym, ap, ◌∙◌, arith}
use Rattle.std.specs.List.{AllPairs}
use Rattle.std.proofs.lemmas.Bool.{cases_order, eq-eqb, eqb-true, and_parts}
use Rattle.std.proofs.lemmas.List.{get_or-take, get_or_default, length-take-le}
use Rattle.std.proofs.lemmas.List.Folds.{Any-from_list_any, list_any_at, list_any_kept, list_any_more}
use Rattle.cfs_model.specs.declared.act.Entry.{Entry}
use Rattle.sched_record.specs.Join.{is_birth_line, is_birth_of}

-- the lines of the events rise
abbrev pub Rise : List Entry → Type 0
Rise events = AllPairs (λ a b. a.line < b.line) events

-- where a birth line's event stands
pub record IsBirthAt (events : List Entry) (line pid index : ℕ) : Type 0 where
  pub within : index < length events
  pub line_is : (d : Entry) → (get_or events index d).line ≡ line
  pub birth : (d : Entry) → is_birth_of pid (get_or events index d).act ≡ true

pub birth_found : (events : List Entry) (line pid : ℕ) → is_birth_line events line pid ≡ true
    → (index : ℕ) × IsBirthAt events line pid index
birth_found events line pid is =
    let any = Any-from_list_any (λ (event : Entry). eqb event.line line && is_birth_of pid event.act) events is in
    let k = any.0 in
    let item = any.1 in
    let parts = and_parts (eqb item.line line) (is_birth_of pid item.act) any.4 in
    let same : (d : Entry) → get_or events k d ≡ item = λ d. get_or_default events k d item any.2 ∙ any.3 in (
      k,
      record {
        within = any.2;
        line_is = λ d. ap (λ (e : Entry). e.line) (same d) ∙ eqb-true _ _ parts.0;
        birth = λ d. ap (λ (e : Entry). is_birth_of pid e.act) (same d) ∙ parts.1;
      },
    )

pub birth_at : (events : List Entry) (line pid index : ℕ) (d : Entry) → index < length events
    → (get_or events index d).line ≡ line
    → is_birth_of pid (get_or events index d).act ≡ true → is_birth_line events line pid ≡ true
birth_at events line pid index d h indexed birth =
    list_any_at (λ (event : Entry). eqb event.line line && is_birth_of pid event.act) events index d h
    (ap (λ b. b && is_birth_of pid (get_or events index d).act) (eq-eqb _ _ indexed) ∙ birth)

-- one more event keeps the births so far
pub birth_kept : (events : List Entry) (i line pid : ℕ) → is_birth_line (take i events) line pid ≡ true
    → is_birth_line (take (i + 1) events) line pid ≡ true
birth_kept events i line pid is = list_any_kept (λ (event : Entry). eqb event.line line && is_birth_of pid event.act)
    events i is

-- and a birth line that is new is its line
pub birth_new : (events : List Entry) (i line pid : ℕ) (d : Entry) → i < length events
    → is_birth_line (take (i + 1) events) line pid ≡ true
    → is_birth_line (take i events) line pid ≡ false
    → ((get_or events i d).line ≡ line) × (is_birth_of pid (get_or events i d).act ≡ true)
birth_new events i line pid d h is before =
    let test : Entry → Bool = λ event. eqb event.line line && is_birth_of pid event.act in
    let here : test (get_or events i d) ≡ true = sym (ap (λ b. b || test (get_or events i d)) before)
    ∙ sym (list_any_more test events i d h) ∙ is in
    let parts = and_parts (eqb (get_or events i d).line line) (is_birth_of pid (get_or events i d).act) here in
    (eqb-true _ _ parts.0, parts.1)

-- the births so far stand above the next event
pub birth_above : (events : List Entry) (i line pid : ℕ) (d : Entry) → Rise events → i < length events
    → is_birth_line (take i events) line pid ≡ true
    → line < (get_or events i d).line
birth_above events i line pid d rise h is =
    let found = birth_found (take i events) line pid is in
    let size = length-take-le i events (omega arith) in
    let within = found.1.within in
    let lt : found.0 < i = omega (arith, size, within) in
    let at = ap (λ (e : Entry). e.line) (get_or-take i events found.0 d lt) in
    let line_is = found.1.line_is d in
    let rises = rise found.0 i d lt h in
    omega (arith, at, line_is, rises)

-- a birth above an event is one of those so far
pub birth_so_far : (events : List Entry) (i line pid : ℕ) (d : Entry) → Rise events → i < length events
    → is_birth_line events line pid ≡ true
    → line < (get_or events i d).line → is_birth_line (take i events) line pid ≡ true
birth_so_far events i line pid d rise h is above =
    let found = birth_found events line pid is in
    let k = found.0 in
    let line_is = found.1.line_is d in
    let size = length-take-le i events (omega arith) in
    elim (cases_order k i) [
      | inl same ↦ (let at = ap (λ n. (get_or events n d).line) same in absurd (omega (arith, at, line_is, above)))
      | inr (inr behind) ↦ (let rises = rise i k d behind found.1.within in
          absurd (omega (arith, rises, line_is, above)))
      | inr (inl before) ↦ (
          let at = get_or-take i events k d before in
          birth_at (take i events) line pid k d (omega (arith, size)) (ap (λ (e : Entry). e.line) at ∙ line_is)
          (ap (λ (e : Entry). is_birth_of pid e.act) at ∙ found.1.birth d))
    ]
