-- Dealing a window by the indices of the events that touch a processor.
use Rattle.std.proofs.Common.{◌≡◌, ℕ, zero, suc, ◌+◌, ◌<◌, ◌≤◌, List, [], ◌∷◌, ◌++◌, length, get_or, map, take, refl}
use Rattle.std.proofs.Common.{sym, ap, subst, ◌∙◌, All, arith}
use Rattle.std.specs.Prelude.{filter}
use Rattle.std.proofs.lemmas.List.{get_or-map, get_or_default, length-map, length-take-le, take_more}
use Rattle.std.proofs.lemmas.List.Elements.{All-get_or}
use Rattle.cfs_model.specs.Claimed.{Claimed}
use Rattle.cfs_model.specs.declared.act.Entry.{Entry}
use Rattle.replay_model.specs.Cut.{steps_at, touches}
use Rattle.replay_model.specs.StepAt.{step_at}
use Rattle.replay_model.specs.declared.step.Step.{Step}
use Rattle.sched_record.specs.Indices.{indices_touching}
use Rattle.sched_record.specs.Window.{AreTouching, said_beside, said_of}
use Rattle.sched_record.specs.declared.window.Saying.{Saying}
use Rattle.sched_record.proofs.Indexing.{indices_within, said_found}
use Rattle.sched_record.proofs.Windows.{said_here, said_length, same_said}

claimed_there : (said : List Claimed) (i : ℕ) → i < length said → (here : Claimed) × (here ≡ get_or said i here)
claimed_there [] i lt = absurd (omega arith)
claimed_there (here ∷ said) zero lt = (here, refl)
claimed_there (here ∷ said) (suc i) lt = claimed_there said i (omega arith)

-- what is said of the event at an index is what stands there
pub said_is : (events : List Entry) (sayings : List Saying) (i : ℕ) (event : Entry) (saying : Saying) (here : Claimed)
    → length sayings ≤ length events → i < length sayings → event ≡ get_or events i event
    → saying ≡ get_or sayings i saying → here ≡ get_or (said_beside events sayings) i here
    → said_of event saying ≡ here
said_is events sayings i event saying here paired lt is there stands =
    said_here events sayings i event saying paired lt is there
    ∙ get_or_default (said_beside events sayings) i (said_of event saying) here
    (let n = said_length events sayings paired in omega (arith, n, lt)) ∙ sym stands

-- what is known of whatever stands at an index stands there
pub stands_as : (sayings : List Saying) (i : ℕ) (saying : Saying) → i < length sayings
    → ((here : Saying) → here ≡ get_or sayings i here → here ≡ saying) → saying ≡ get_or sayings i saying
stands_as sayings i saying lt known =
    let there = get_or sayings i saying in sym (known there (get_or_default sayings i saying there lt))

-- the indices of the events that touch a processor
module _ (cpu : ℕ) (events : List Entry) (sayings : List Saying) (indices : List ℕ)
    (paired : length sayings ≤ length events)
    (are : indices ≡ indices_touching cpu (take (length sayings) events)) where
  abbrev said : List Claimed
  said = said_beside events sayings

  -- those of which it is told what is said
  abbrev told : List Entry
  told = take (length sayings) events

  as_told : length sayings ≡ length told
  as_told = sym (length-take-le (length sayings) events paired)

  abbrev touching : List Claimed
  touching = filter (touches cpu) said

  -- what is said at them
  found : (d : Claimed) → map (λ index. get_or said index d) indices ≡ touching
  found d =
      ap (map (λ index. get_or said index d)) are
      ∙ ap (λ xs. map (λ index. get_or xs index d) (indices_touching cpu told)) (sym (same_said events sayings))
      ∙ said_found cpu told sayings d as_told ∙ ap (filter (touches cpu)) (same_said events sayings)

  -- each is one among the events
  below : (k : ℕ) → k < length indices → get_or indices k 0 < length said
  below k h =
      let in_events = All-get_or (λ index. index < length told) indices k 0 h
      (subst (All (λ index. index < length told)) (sym are) (indices_within cpu told)) in
      let size = said_length events sayings paired in
      let n = as_told in
      omega (arith, in_events, size, n)

  -- there are as many as indices
  count : (d : Claimed) → length touching ≡ length indices
  count d = ap length (sym (found d)) ∙ length-map indices (λ index. get_or said index d)

  step_there : (k : ℕ) (here : Claimed) (d : Step) → k < length indices → here ≡ get_or said (get_or indices k 0) here
      → get_or (steps_at cpu said) k d ≡ step_at cpu here
  step_there k here d h there =
      get_or-map (step_at cpu) touching k here d (let n = count here in omega (arith, n, h))
      ∙ ap (step_at cpu) (ap (λ es. get_or es k here) (sym (found here))
      ∙ get_or-map (λ index. get_or said index here) indices k 0 here h ∙ sym there)

  as_many : length touching ≡ length indices
  as_many = by indices refl
    where
      by : (is : List ℕ) → indices ≡ is → length touching ≡ length indices
      by is e = by_said said refl
        where
          by_said : (cs : List Claimed) → said ≡ cs → length touching ≡ length indices
          by_said (c ∷ cs) f = count c
          by_said [] f = ap (λ l. length (filter (touches cpu) l)) f ∙ sym (no_indices is e f)
            where
              no_indices : (is : List ℕ) → indices ≡ is → said ≡ [] → length indices ≡ 0
              no_indices [] e f = ap length e
              no_indices (i ∷ is) e f = absurd (let h = below 0 (let n = ap length e in omega (arith, n)) in
                  let n = ap length f in omega (arith, h, n))

  pub are_touching : AreTouching cpu said indices
  are_touching = record {
    within = below;
    count = length-map touching (step_at cpu) ∙ as_many;
    steps = step_there;
  }

-- what is known of the step at the next index tells the processor's next step
pub step_found : (cpu : ℕ) (events : List Claimed) (indices : List ℕ) → AreTouching cpu events indices → (k : ℕ)
    (step : Step) → k < length indices
    → ((here : Claimed) → here ≡ get_or events (get_or indices k 0) here → step ≡ step_at cpu here)
    → get_or (steps_at cpu events) k step ≡ step
step_found cpu events indices at k step h is =
    let there = claimed_there events (get_or indices k 0) (at.within k h) in
    at.steps k there.0 step h there.1 ∙ sym (is there.0 there.1)

-- one more step behind those that are dealt
pub deals_next : (cpu : ℕ) (events : List Claimed) (indices : List ℕ) → AreTouching cpu events indices → (k : ℕ)
    (steps more : List Step) → k < length indices → steps ≡ take k (steps_at cpu events)
    → ((here : Claimed) → here ≡ get_or events (get_or indices k 0) here → more ≡ steps ++ step_at cpu here ∷ [])
    → more ≡ take (k + 1) (steps_at cpu events)
deals_next cpu events indices at k steps more h dealt added =
    let there = claimed_there events (get_or indices k 0) (at.within k h) in
    let step = step_at cpu there.0 in
    added there.0 there.1 ∙ ap (λ ss. ss ++ step ∷ []) dealt
    ∙ ap (λ s. take k (steps_at cpu events) ++ s ∷ []) (sym (at.steps k there.0 step h there.1))
    ∙ sym (take_more (steps_at cpu events) k step (let n = at.count in omega (arith, n, h)))
