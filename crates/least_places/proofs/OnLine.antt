-- The event on a line of a record is the first there, and stands on processors of the record.
use Rattle.std.proofs.Common.{◌≡◌, ℕ, ◌<◌, nat_eq, Bool, true, false, Option, Some, None, List, [], ◌∷◌, ◌++◌}
use Rattle.std.proofs.Common.{map, cond}
use Rattle.std.proofs.Common.{Result, Ok, Err, IfOk, refl, sym, ap, ◌∙◌, subst, arith}
use Rattle.std.proofs.lemmas.Bool.{eq-eqb, ne_eqb}
use Rattle.std.specs.List.{AllByRecursion}
use Rattle.cfs_model.specs.Claimed.{Claimed, claimed}
use Rattle.cfs_model.specs.Knobs.{KnobsView}
use Rattle.cfs_model.specs.Touch.{touched}
use Rattle.cfs_model.specs.declared.act.Act.{Act}
use Rattle.cfs_model.specs.declared.act.Act.TheVariants.{Switch, Wake, Born, Shift}
use Rattle.cfs_model.specs.declared.act.Entry.{Entry}
use Rattle.least_places.specs.Left.{IsFront, IsLeastIfAny, IsLeft, end_of}
use Rattle.least_places.specs.Walks.{switched_by, switched_on_line}
use Rattle.replay_model.specs.Record.{LinesRise}
use Rattle.sched_record.specs.Record.{RecordView}
use Rattle.sched_record.specs.RecordView.{policy_of}
use Rattle.ticket_book.specs.SaidEvents.{events_of}

same_some : (a b : ℕ) → Some a ≡ Some b → a ≡ b
same_some a b e = cc

-- the entries of events
abbrev pub entries_of : List Claimed → List Entry
entries_of events = map (λ (event : Claimed). event.entry) events

-- of lines that rise from above one each is above it
pub line_above : (from : ℕ) (before : List Claimed) (event : Claimed) (rest : List Claimed)
    → LinesRise from (before ++ event ∷ rest) → from < event.entry.line
line_above from [] event rest rise = rise.0
line_above from (first ∷ before) event rest rise =
    (let k = line_above first.entry.line before event rest rise.1 in let j = rise.0 in omega (arith, k, j))

-- the switch on the line of an event is that event's
first_there : (from : ℕ) (before : List Claimed) (event : Claimed) (rest : List Claimed)
    → LinesRise from (before ++ event ∷ rest)
    → switched_on_line (entries_of (before ++ event ∷ rest)) event.entry.line ≡ switched_by event.entry.act
first_there from [] event rest rise =
    ap (λ b. cond b (switched_by event.entry.act) (switched_on_line (entries_of rest) event.entry.line))
    (eq-eqb event.entry.line event.entry.line refl)
first_there from (first ∷ before) event rest rise =
    let behind = line_above first.entry.line before event rest rise.1 in
    ap (λ b. cond b (switched_by first.entry.act)
    (switched_on_line (entries_of (before ++ event ∷ rest)) event.entry.line))
    (ne_eqb first.entry.line event.entry.line (λ e. omega (arith, behind, e)))
    ∙ first_there first.entry.line before event rest rise.1

-- the entries of a record's events are its own
pub same_entries : (r : RecordView) → entries_of (events_of r) ≡ r.events
same_entries r = go r.events
  where
    go : (entries : List Entry)
        → entries_of (claimed r.claims r.nices r.charges (policy_of r) entries) ≡ entries
    go [] = refl
    go (entry ∷ entries) = ap (λ es. entry ∷ es) (go entries)

-- the switch on a line is that of the front's last event
at_front : (r : RecordView) (knobs : KnobsView) → LinesRise 0 (events_of r) → (line : ℕ) (front : IsFront r knobs line)
    → switched_on_line r.events line ≡ switched_by front.event.entry.act
at_front r knobs rise line front =
    let there = first_there 0 front.before front.event front.rest (subst (LinesRise 0) front.whole rise) in
    ap (λ es. switched_on_line es line) (sym (same_entries r) ∙ ap entries_of front.whole)
    ∙ ap (switched_on_line (entries_of (front.before ++ front.event ∷ front.rest))) (sym front.line_is) ∙ there

-- so behind it the least of those who wait at its processor is left, and behind any other event nobody
pub left_if_switch : (r : RecordView) (knobs : KnobsView) → LinesRise 0 (events_of r) → (line cpu : ℕ) (left : Option ℕ)
    → switched_on_line r.events line ≡ Some cpu
    → ((front : IsFront r knobs line) → IsLeastIfAny (end_of r knobs line front) cpu left)
    → (front : IsFront r knobs line) → IsLeft (end_of r knobs line front) front.event.entry.act left
left_if_switch r knobs rise line cpu left on least front =
    go front.event.entry.act (sym (at_front r knobs rise line front) ∙ on)
  where
    go : (act : Act) → switched_by act ≡ Some cpu → IsLeft (end_of r knobs line front) act left
    go (Switch here prev prev_nice way next next_nice) e =
        subst (λ c. IsLeastIfAny (end_of r knobs line front) c left) (sym (same_some here cpu e)) (least front)
    go (Wake here pid nice) e = absurd cc
    go (Born here pid nice) e = absurd cc
    go (Shift orig dest pid nice) e = absurd cc

pub left_if_none : (r : RecordView) (knobs : KnobsView) → LinesRise 0 (events_of r) → (line : ℕ)
    → switched_on_line r.events line ≡ None
    → (front : IsFront r knobs line) → IsLeft (end_of r knobs line front) front.event.entry.act None
left_if_none r knobs rise line on front = go front.event.entry.act (sym (at_front r knobs rise line front) ∙ on)
  where
    go : (act : Act) → switched_by act ≡ None → IsLeft (end_of r knobs line front) act None
    go (Switch here prev prev_nice way next next_nice) e = absurd cc
    go (Wake here pid nice) e = refl
    go (Born here pid nice) e = refl
    go (Shift orig dest pid nice) e = refl

-- what is said of each value under a premise is said of an answer, if it is one
pub ok_map : {A E P : Type 0} {Q R : A → Type 0} → ((a : A) → P → Q a → R a) → P → (x : Result A E) → IfOk x Q
    → IfOk x R
ok_map f p (Ok a) h = f a p h
ok_map f p (Err e) h = tt

-- a switch on a line is on a processor of the record
pub switch_within : (r : RecordView) (cpus line cpu : ℕ)
    → AllByRecursion (λ (event : Claimed). AllByRecursion (λ c. c < cpus) (touched event.entry.act)) (events_of r)
    → switched_on_line r.events line ≡ Some cpu → cpu < cpus
switch_within r cpus line cpu within on =
    go (events_of r) within (ap (λ es. switched_on_line es line) (same_entries r) ∙ on)
  where
    by_act : (act : Act) → AllByRecursion (λ c. c < cpus) (touched act) → switched_by act ≡ Some cpu → cpu < cpus
    by_act (Switch here prev prev_nice way next next_nice) h e = subst (λ c. c < cpus) (same_some here cpu e) h.0
    by_act (Wake here pid nice) h e = absurd cc
    by_act (Born here pid nice) h e = absurd cc
    by_act (Shift orig dest pid nice) h e = absurd cc

    go : (events : List Claimed)
        → AllByRecursion (λ (event : Claimed). AllByRecursion (λ c. c < cpus) (touched event.entry.act)) events
        → switched_on_line (entries_of events) line ≡ Some cpu → cpu < cpus
    go [] h e = absurd cc
    go (event ∷ events) h e = either_way (nat_eq event.entry.line line)
        (λ k. by_act event.entry.act h.0 k) (λ k. go events h.1 k) e
      where
        either_way : (b : Bool) → (switched_by event.entry.act ≡ Some cpu → cpu < cpus)
            → (switched_on_line (entries_of events) line ≡ Some cpu → cpu < cpus)
            → cond b (switched_by event.entry.act) (switched_on_line (entries_of events) line) ≡ Some cpu → cpu < cpus
        either_way true here there k = here k
        either_way false here there k = there k
