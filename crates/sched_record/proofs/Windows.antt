-- A window's events and what is said beside them, index by index.
use Rattle.std.proofs.Common.{◌≡◌, ℕ, zero, suc, ◌+◌, ◌-◌, ◌<◌, ◌≤◌, min, List, [], ◌∷◌, ◌++◌, length, map, take}
use Rattle.std.proofs.Common.{drop, get_or, cond, eqb, true, false, refl, sym, ap, ◌∙◌, arith}
use Rattle.std.specs.Prelude.{filter}
use Rattle.std.specs.List.{list_any}
use Rattle.cfs_model.specs.Touch.{touched}
use Rattle.std.proofs.lemmas.List.{append-nil, get_or-drop, get_or-map, length-drop, length-map, map-append, take_all}
use Rattle.std.proofs.lemmas.List.{take_min}
use Rattle.std.proofs.lemmas.List.{take_more}
use Rattle.std.proofs.lemmas.List.Elements.{filter-append}
use Rattle.cfs_model.specs.Claimed.{Claimed}
use Rattle.cfs_model.specs.declared.act.Entry.{Entry}
use Rattle.replay_model.specs.Cut.{steps_at, touches}
use Rattle.replay_model.specs.StepAt.{step_at}
use Rattle.replay_model.specs.declared.step.Step.{Step}
use Rattle.sched_record.specs.Window.{said_beside, said_of}
use Rattle.sched_record.specs.declared.window.Saying.{Saying}

none_beside : (events : List Entry) → said_beside events [] ≡ []
none_beside [] = refl
none_beside (x ∷ events) = refl

-- one more, which is the first of those that wait
pub said_more : (events : List Entry) (sayings : List Saying) (event : Entry) (rest : List Entry) (saying : Saying)
    → drop (length sayings) events ≡ event ∷ rest
    → said_beside events (sayings ++ saying ∷ []) ≡ said_beside events sayings ++ said_of event saying ∷ []
said_more [] [] event rest saying e = absurd (let n = ap length e in omega (arith, n))
said_more [] (s ∷ sayings) event rest saying e = absurd (let n = ap length e in omega (arith, n))
said_more (x ∷ events) [] event rest saying e =
    ap (λ said. said_of x saying ∷ said) (none_beside events)
    ∙ ap (λ y. said_of y saying ∷ []) (ap (λ es. get_or es 0 event) e)
said_more (x ∷ events) (s ∷ sayings) event rest saying e =
    ap (λ said. said_of x s ∷ said) (said_more events sayings event rest saying e)

-- then the others wait
pub rest_waits : (events : List Entry) (n : ℕ) (event : Entry) (rest : List Entry)
    → drop n events ≡ event ∷ rest → drop (n + 1) events ≡ rest
rest_waits [] zero event rest e = absurd (let n = ap length e in omega (arith, n))
rest_waits [] (suc n) event rest e = absurd (let n = ap length e in omega (arith, n))
rest_waits (x ∷ events) zero event rest e = ap (drop 1) e
rest_waits (x ∷ events) (suc n) event rest e =
    let m : suc n + 1 ≡ suc (n + 1) = omega arith in
    ap (λ k. drop k (x ∷ events)) m ∙ rest_waits events n event rest e

-- and the first was among all
pub front_more : (events : List Entry) (n : ℕ) (event : Entry) (rest : List Entry)
    → drop n events ≡ event ∷ rest → take (n + 1) events ≡ take n events ++ event ∷ []
front_more [] zero event rest e = absurd (let n = ap length e in omega (arith, n))
front_more [] (suc n) event rest e = absurd (let n = ap length e in omega (arith, n))
front_more (x ∷ events) zero event rest e = ap (λ es. get_or es 0 event ∷ []) e
front_more (x ∷ events) (suc n) event rest e =
    let m : suc n + 1 ≡ suc (n + 1) = omega arith in
    ap (λ k. take k (x ∷ events)) m ∙ ap (λ es. x ∷ es) (front_more events n event rest e)

-- as long as one waits, there are more events than sayings
pub one_waits : (events : List Entry) (n : ℕ) (event : Entry) (rest : List Entry)
    → drop n events ≡ event ∷ rest → n + 1 ≤ length events
one_waits events n event rest e = (let m = length-drop n events in let k = ap length e in omega (arith, m, k))

-- what is said stays, whatever waits
pub said_in_front : (events more : List Entry) (sayings : List Saying) → length sayings ≤ length events
    → said_beside (take (length sayings) events ++ more) sayings ≡ said_beside events sayings
said_in_front [] more [] e = none_beside more
said_in_front [] more (s ∷ sayings) e = absurd (omega arith)
said_in_front (x ∷ events) more [] e = none_beside more
said_in_front (x ∷ events) more (s ∷ sayings) e =
    ap (λ said. said_of x s ∷ said) (said_in_front events more sayings (omega arith))

pub same_said : (events : List Entry) (sayings : List Saying)
    → said_beside (take (length sayings) events) sayings ≡ said_beside events sayings
same_said [] [] = refl
same_said [] (s ∷ sayings) = refl
same_said (x ∷ events) [] = refl
same_said (x ∷ events) (s ∷ sayings) = ap (λ said. said_of x s ∷ said) (same_said events sayings)

-- the events of what is said
pub entries_said : (events : List Entry) (sayings : List Saying)
    → map (λ event. event.entry) (said_beside events sayings) ≡ take (length sayings) events
entries_said [] [] = refl
entries_said [] (s ∷ sayings) = refl
entries_said (x ∷ events) [] = refl
entries_said (x ∷ events) (s ∷ sayings) = ap (λ es. x ∷ es) (entries_said events sayings)

pub said_length : (events : List Entry) (sayings : List Saying) → length sayings ≤ length events
    → length (said_beside events sayings) ≡ length sayings
said_length [] [] e = refl
said_length [] (s ∷ sayings) e = absurd (omega arith)
said_length (x ∷ events) [] e = refl
said_length (x ∷ events) (s ∷ sayings) e = (let h = said_length events sayings (omega arith) in omega (arith, h))

-- the event at an index with the saying there
pub said_here : (events : List Entry) (sayings : List Saying) (i : ℕ) (event : Entry) (saying : Saying)
    → length sayings ≤ length events → i < length sayings → event ≡ get_or events i event
    → saying ≡ get_or sayings i saying
    → said_of event saying ≡ get_or (said_beside events sayings) i (said_of event saying)
said_here [] [] i event saying e lt is there = absurd (omega arith)
said_here [] (s ∷ sayings) i event saying e lt is there = absurd (omega arith)
said_here (x ∷ events) [] i event saying e lt is there = absurd (omega arith)
said_here (x ∷ events) (s ∷ sayings) zero event saying e lt is there =
    ap (λ y. said_of y saying) is ∙ ap (said_of x) there
said_here (x ∷ events) (s ∷ sayings) (suc i) event saying e lt is there =
    said_here events sayings i event saying (omega arith) (omega arith) is there

saying_there : (sayings : List Saying) (i : ℕ) → i < length sayings
    → (saying : Saying) × (saying ≡ get_or sayings i saying)
saying_there [] i lt = absurd (omega arith)
saying_there (s ∷ sayings) zero lt = (s, refl)
saying_there (s ∷ sayings) (suc i) lt = saying_there sayings i (omega arith)

module _ (cpu : ℕ) (events : List Entry) (sayings : List Saying) (i : ℕ) (paired : length sayings ≤ length events)
    (lt : i < length sayings) where
  abbrev said : List Claimed
  said = said_beside events sayings

  one_more : (here : Claimed) → here ≡ get_or said i here
      → steps_at cpu (take (i + 1) said)
      ≡ steps_at cpu (take i said) ++ map (step_at cpu) (cond (touches cpu here) (here ∷ []) [])
  one_more here is =
      ap (steps_at cpu) (take_more said i here (let n = said_length events sayings paired in omega (arith, n))
      ∙ ap (λ x. take i said ++ x ∷ []) (sym is))
      ∙ ap (map (step_at cpu)) (filter-append (touches cpu) (take i said) (here ∷ []))
      ∙ map-append (step_at cpu) (filter (touches cpu) (take i said)) (filter (touches cpu) (here ∷ []))

  -- an event that touches the processor
  pub deals_one : (event : Entry) (steps more : List Step) → event ≡ get_or events i event
      → list_any (λ other. eqb other cpu) (touched event.act) ≡ true → steps ≡ steps_at cpu (take i said)
      → ((here : Claimed) → here ≡ get_or said i here → more ≡ steps ++ step_at cpu here ∷ [])
      → more ≡ steps_at cpu (take (i + 1) said)
  deals_one event steps more is touched dealt added =
      let there = saying_there sayings i (omega arith) in
      let here = said_of event there.0 in
      let is_here = said_here events sayings i event there.0 paired lt is there.1 in
      added here is_here ∙ ap (λ ss. ss ++ step_at cpu here ∷ []) dealt
      ∙ ap (λ b. steps_at cpu (take i said) ++ map (step_at cpu) (cond b (here ∷ []) [])) (sym touched)
      ∙ sym (one_more here is_here)

  -- one that doesn't
  pub deals_none : (event : Entry) (steps : List Step)
      → event ≡ get_or events i event → list_any (λ other. eqb other cpu) (touched event.act) ≡ false
      → steps ≡ steps_at cpu (take i said)
      → steps ≡ steps_at cpu (take (i + 1) said)
  deals_none event steps is untouched dealt =
      let there = saying_there sayings i (omega arith) in
      dealt ∙ sym (append-nil (steps_at cpu (take i said)))
      ∙ ap (λ b. steps_at cpu (take i said) ++ map (step_at cpu) (cond b (said_of event there.0 ∷ []) []))
      (sym untouched)
      ∙ sym (one_more (said_of event there.0)
      (said_here events sayings i event there.0 paired lt is there.1))

-- all of them
pub deals_all : (cpu : ℕ) (events : List Entry) (sayings : List Saying) (i : ℕ) (steps : List Step)
    → length sayings ≤ length events → length sayings ≤ i → steps ≡ steps_at cpu (take i (said_beside events sayings))
    → steps ≡ steps_at cpu (said_beside events sayings)
deals_all cpu events sayings i steps paired all dealt =
    dealt ∙ ap (steps_at cpu) (take_all i (said_beside events sayings)
    (let n = said_length events sayings paired in omega (arith, n)))

module _ (with : Entry → Claimed) (events : List Entry) (from index : ℕ) where
  -- one more event of a record, behind those from one on
  pub fills_one : (event : Entry) (saying : Saying) (before after : List Claimed) → from ≤ index
      → index < length events → event ≡ get_or events index event
      → said_of (get_or events index event) saying ≡ with (get_or events index event)
      → before ≡ take (index - from) (drop from (map with events)) → after ≡ before ++ said_of event saying ∷ []
      → after ≡ take (index + 1 - from) (drop from (map with events))
  fills_one event saying before after low within is said filled added =
      let here = said_of event saying in
      let there : here ≡ get_or (drop from (map with events)) (index - from) here =
      ap (λ e. said_of e saying) is ∙ said ∙ sym (get_or-map with events index event here within)
      ∙ ap (λ n. get_or (map with events) n here) (omega arith)
      ∙ sym (get_or-drop from (map with events) (index - from) here) in
      let few : index - from < length (drop from (map with events)) =
      (let n = length-drop from (map with events) in let m = length-map events with in omega (arith, n, m)) in
      added ∙ ap (λ xs. xs ++ here ∷ []) filled
      ∙ ap (λ x. take (index - from) (drop from (map with events)) ++ x ∷ []) there
      ∙ sym (take_more (drop from (map with events)) (index - from) here few)
      ∙ ap (λ n. take n (drop from (map with events))) (omega arith)

  -- as many as there are, and no more than asked for
  pub fills_all : (most count : ℕ) (window : List Claimed) → from ≤ index
      → count ≡ min most (length events - from) → index ≡ from + count
      → window ≡ take (index - from) (drop from (map with events))
      → window ≡ take most (drop from (map with events))
  fills_all most count window low is end filled =
      filled
      ∙ ap (λ n. take n (drop from (map with events)))
      (let n = length-drop from (map with events) in let m = length-map events with in
      let e : index - from ≡ min most (length (drop from (map with events))) = omega (arith, n, m, is, end) in e)
      ∙ take_min most (drop from (map with events))
