-- Events in order, the line of the last of them, and windows of them one after another.
use Rattle.std.proofs.Common.{◌≡◌, ◌≢◌, ℕ, zero, suc, ◌+◌, ◌-◌, ◌<◌, ◌≤◌, List, [], ◌∷◌, ◌++◌}
use Rattle.std.proofs.Common.{length, get_or, take, drop}
use Rattle.std.proofs.Common.{refl, sym, ap, subst, ◌∙◌, append_assoc, length-append, arith, take-add}
use Rattle.std.specs.Prelude.{All, AllPairs}
use Rattle.std.proofs.lemmas.List.{get_or_append_left, take-append-drop}
use Rattle.std.proofs.lemmas.List.Elements.{All-head, All-tail}
use Rattle.cfs_model.specs.Limits.{greatest_line, no_line}
use Rattle.cfs_model.specs.declared.act.Entry.{Entry}
use Rattle.sched_record.specs.Kept.{AreInOrder, IsNamed}
use Rattle.window_joining.specs.Joining.{edge_from, edge_of}
use Rattle.stream_audit.proofs.Joined.{next_below}
use Rattle.stream_audit.specs.Course.{AreEventsNext}

-- ---- events in order

all_front : {A : Type 0} (P : A → Type 0) (front rest : List A) → All P (front ++ rest) → All P front
all_front P front rest all k d h =
    subst P (get_or_append_left front rest d k h)
    (all k d (let n = length-append front rest in omega (arith, n, h)))

pairs_front : {A : Type 0} (R : A → A → Type 0) (front rest : List A) → AllPairs R (front ++ rest) → AllPairs R front
pairs_front R front rest pairs i j d below h =
    let n = length-append front rest in
    let first = get_or_append_left front rest d i (omega (arith, below, h)) in
    let second = get_or_append_left front rest d j h in
    subst (λ x. R x (get_or front j d)) first
    (subst (λ y. R (get_or (front ++ rest) i d) y) second (pairs i j d below (omega (arith, n, h))))

pub in_order_front : (front rest : List Entry) → AreInOrder (front ++ rest) → AreInOrder front
in_order_front front rest o = record {
  from_one = all_front (λ (event : Entry). 0 < event.line) front rest o.from_one;
  lines_rise = pairs_front (λ (a : Entry) (b : Entry). a.line < b.line) front rest o.lines_rise;
  never_falls = pairs_front (λ (a : Entry) (b : Entry). a.time ≤ b.time) front rest o.never_falls;
  named = all_front (λ (event : Entry). IsNamed event.act) front rest o.named;
}

-- events behind which others come
next_front : (before events rest : List Entry) → AreEventsNext before (events ++ rest) → AreEventsNext before events
next_front before events rest next =
    let same = sym (append_assoc before events rest) in
    record {
      in_order = in_order_front (before ++ events) rest (subst AreInOrder same next.in_order);
      few = all_front (λ (event : Entry). event.line ≤ greatest_line) (before ++ events) rest
          (subst (All (λ (event : Entry). event.line ≤ greatest_line)) same next.few);
    }

next_rest : (before events rest : List Entry) → AreEventsNext before (events ++ rest)
    → AreEventsNext (before ++ events) rest
next_rest before events rest next =
    let same = sym (append_assoc before events rest) in
    record {
      in_order = subst AreInOrder same next.in_order;
      few = subst (All (λ (event : Entry). event.line ≤ greatest_line)) same next.few;
    }

-- ---- the line of the last event

edge_then : (line : ℕ) (before events : List Entry)
    → edge_from line (before ++ events) ≡ edge_from (edge_from line before) events
edge_then line [] events = refl
edge_then line (event ∷ before) events = edge_then event.line before events

edge_above : (low line : ℕ) (events : List Entry) → low ≤ line → All (λ (event : Entry). low < event.line) events
    → low ≤ edge_from line events
edge_above low line [] up above = up
edge_above low line (event ∷ events) up above =
    let first = All-head (λ (e : Entry). low < e.line) event events above in
    edge_above low event.line events (omega (arith, first)) (All-tail (λ (e : Entry). low < e.line) event events above)

pub edge_rises : (before events : List Entry) → AreInOrder (before ++ events)
    → edge_of before ≤ edge_of (before ++ events)
edge_rises before events o =
    let up = edge_above (edge_of before) (edge_of before) events (omega arith) (next_below before events o) in
    subst (λ n. edge_of before ≤ n) (sym (edge_then no_line before events)) up

edge_last : (line : ℕ) (events : List Entry) (d : Entry) → 0 < length events
    → edge_from line events ≡ (get_or events (length events - 1) d).line
edge_last line [] d some = absurd (omega (arith, some))
edge_last line (event ∷ []) d some = refl
edge_last line (event ∷ next ∷ events) d some =
    let same : length (event ∷ next ∷ events) - 1 ≡ suc (length (next ∷ events) - 1) = omega arith in
    edge_last event.line (next ∷ events) d (omega arith)
    ∙ ap (λ n. (get_or (event ∷ next ∷ events) n d).line) (sym same)

pub edge_is : (before events : List Entry) (d : Entry) → 0 < length events
    → edge_of (before ++ events) ≡ (get_or events (length events - 1) d).line
edge_is before events d some =
    edge_then no_line before events ∙ edge_last (edge_of before) events d some

-- a window has some
pub some_events : (events : List Entry) → events ≢ [] → 0 < length events
some_events [] some = absurd (some refl)
some_events (event ∷ events) some = omega arith

-- ---- windows one after another

-- the events from one place to another come next behind those before
pub next_window : (before events : List Entry) (from count : ℕ) → AreEventsNext before events
    → AreEventsNext (before ++ take from events) (take count (drop from events))
next_window before events from count next =
    let window = take count (drop from events) in
    let rest = drop count (drop from events) in
    let parts : events ≡ take from events ++ (window ++ rest) =
    sym (take-append-drop from events)
    ∙ ap (λ xs. take from events ++ xs) (sym (take-append-drop count (drop from events))) in
    next_front (before ++ take from events) window rest
    (next_rest before (take from events) (window ++ rest) (subst (AreEventsNext before) parts next))

-- and with them they are those up to the other place
pub with_window : (before events : List Entry) (from count : ℕ)
    → (before ++ take from events) ++ take count (drop from events) ≡ before ++ take (from + count) events
with_window before events from count =
    append_assoc before (take from events) (take count (drop from events))
    ∙ ap (λ xs. before ++ xs) (sym (take-add from count events))

-- a window goes no further than all of them
pub window_below : (before events : List Entry) (from count : ℕ) → AreEventsNext before events
    → edge_of ((before ++ take from events) ++ take count (drop from events)) ≤ edge_of (before ++ events)
window_below before events from count next =
    let front = before ++ take (from + count) events in
    let rest = drop (from + count) events in
    let parts : front ++ rest ≡ before ++ events =
    append_assoc before (take (from + count) events) rest
    ∙ ap (λ xs. before ++ xs) (take-append-drop (from + count) events) in
    let up = edge_rises front rest (subst AreInOrder (sym parts) next.in_order) in
    let all = ap edge_of parts in
    let window = ap edge_of (with_window before events from count) in
    omega (arith, up, all, window)

-- ---- the first of some events, and the others

pub first_next : (before events : List Entry) (n : ℕ) → AreEventsNext before events
    → AreEventsNext before (take n events)
first_next before events n next =
    next_front before (take n events) (drop n events)
    (subst (AreEventsNext before) (sym (take-append-drop n events)) next)

pub rest_next : (before events : List Entry) (n : ℕ) → AreEventsNext before events
    → AreEventsNext (before ++ take n events) (drop n events)
rest_next before events n next =
    next_rest before (take n events) (drop n events)
    (subst (AreEventsNext before) (sym (take-append-drop n events)) next)

-- together they are all
pub both_parts : (before events : List Entry) (n : ℕ) → (before ++ take n events) ++ drop n events ≡ before ++ events
both_parts before events n =
    append_assoc before (take n events) (drop n events) ∙ ap (λ xs. before ++ xs) (take-append-drop n events)

pub first_below : (before events : List Entry) (n : ℕ) → AreEventsNext before events
    → edge_of (before ++ take n events) ≤ edge_of (before ++ events)
first_below before events n next =
    let parts = both_parts before events n in
    let up = edge_rises (before ++ take n events) (drop n events) (subst AreInOrder (sym parts) next.in_order) in
    let all = ap edge_of parts in omega (arith, up, all)

-- where there are some the first of them are some
pub first_some : (events : List Entry) (n : ℕ) → 0 < n → 0 < length events → take n events ≢ []
first_some [] n some there = absurd (omega (arith, there))
first_some (event ∷ events) zero some there = absurd (omega (arith, some))
first_some (event ∷ events) (suc n) some there = λ e. cc

pub rest_some : (events : List Entry) (n : ℕ) → 0 < length (drop n events) → 0 < length events
rest_some [] zero some = some
rest_some [] (suc n) some = some
rest_some (event ∷ events) n some = omega arith
