-- The indices of the events that touch a processor: what one more event adds, and that the events at these indices are
-- those that touch it.
use Rattle.std.proofs.Common.{◌≡◌, ℕ, suc, ◌+◌, ◌<◌, ◌≤◌, List, [], ◌∷◌, ◌++◌, length, get_or, map, Bool, true, false}
use Rattle.std.proofs.Common.{cond, refl, sym, ap, ◌∙◌, arith}
use Rattle.std.specs.Prelude.{All, filter}
use Rattle.std.specs.List.{enumerate_from}
use Rattle.std.proofs.lemmas.List.{get_or-map, get_or_default, map-append, length-map}
use Rattle.std.proofs.lemmas.List.Elements.{All-cons, All-nil, All-weaker, filter-append}
use Rattle.cfs_model.specs.Claimed.{Claimed, claimed, with_claim}
use Rattle.cfs_model.specs.Limits.{most_processors}
use Rattle.cfs_model.specs.declared.act.Entry.{Entry}
use Rattle.cfs_model.specs.declared.claim.Claim.{Claim}
use Rattle.cfs_model.specs.declared.nice_line.NiceLine.{NiceLine}
use Rattle.cfs_model.specs.declared.charge_line.ChargeLine.{ChargeLine}
use Rattle.replay_model.specs.StepAt.{step_at}
use Rattle.replay_model.specs.Cut.{steps_at, touches}
use Rattle.replay_model.specs.declared.step.Step.{Step}
use Rattle.sched_record.specs.Indices.{AreIndicesOf, indices_at, indices_touching, touches_cpu}
use Rattle.sched_record.specs.Window.{said_beside, said_of}
use Rattle.sched_record.specs.declared.window.Saying.{Saying}
use Rattle.sched_record.proofs.Lines.{enumerate_push}
use Rattle.sched_record.proofs.Windows.{said_length}
use Rattle.cfs_model.specs.declared.policy.Policy.{Policy}

map_first : {X : Type 0} (b : Bool) (n : ℕ) (x : X)
    → map (λ (at : ℕ × X). at.0) (cond b ((n, x) ∷ []) []) ≡ cond b (n ∷ []) []
map_first true n x = refl
map_first false n x = refl

-- what one more event adds
pub indices_push : (cpu : ℕ) (events : List Entry) (event : Entry)
    → indices_touching cpu (events ++ event ∷ []) ≡ indices_touching cpu events
    ++ cond (touches_cpu cpu event.act) (length events ∷ []) []
unfolding indices_touching
indices_push cpu events event =
    let test : ℕ × Entry → Bool = λ at. touches_cpu cpu (at.1).act in
    let first : ℕ × Entry → ℕ = λ at. at.0 in
    let all = enumerate_from 0 events in
    let one : ℕ × Entry = (0 + length events, event) in
    ap (λ ys. map first (filter test ys)) (enumerate_push 0 events event)
    ∙ ap (map first) (filter-append test all (one ∷ []))
    ∙ map-append first (filter test all) (filter test (one ∷ []))
    ∙ ap (λ ys. map first (filter test all) ++ ys) (map_first (touches_cpu cpu event.act) (0 + length events) event
    ∙ ap (λ k. cond (touches_cpu cpu event.act) (k ∷ []) []) (omega arith))

-- no event, no index
pub none_indexed : AreIndicesOf [] []
unfolding indices_touching
none_indexed cpu h = refl

-- one more event, at the index behind the last
pub indexed_more : (events : List Entry) (lists more : List (List ℕ)) (event : Entry) (index : ℕ)
    → AreIndicesOf events lists → index ≡ length events
    → ((cpu : ℕ) → cpu < most_processors → indices_at more cpu ≡ indices_at lists cpu
    ++ cond (touches_cpu cpu event.act) (index ∷ []) [])
    → AreIndicesOf (events ++ event ∷ []) more
indexed_more events lists more event index indexed is_last added cpu h =
    added cpu h ∙ ap (λ xs. xs ++ cond (touches_cpu cpu event.act) (index ∷ []) []) (indexed cpu h)
    ∙ ap (λ n. indices_touching cpu events ++ cond (touches_cpu cpu event.act) (n ∷ []) []) is_last
    ∙ sym (indices_push cpu events event)

-- the same events, and the same indices
pub indices_same : (events : List Entry) (lists more : List (List ℕ)) → AreIndicesOf events lists
    → ((cpu : ℕ) → cpu < most_processors → indices_at more cpu ≡ indices_at lists cpu) → AreIndicesOf events more
indices_same events lists more indexed same cpu h = same cpu h ∙ indexed cpu h

-- the events that touch a processor
abbrev pub touching : ℕ → List Entry → List Entry
touching cpu events = filter (λ event. touches_cpu cpu event.act) events

-- the indices, counted from a number on
abbrev pub indices_from : ℕ → ℕ → List Entry → List ℕ
indices_from cpu n events = map (λ at. at.0) (filter (λ at. touches_cpu cpu (at.1).act) (enumerate_from n events))

found_from : (cpu n : ℕ) (f : ℕ → Entry) (events : List Entry)
    → ((k : ℕ) (d : Entry) → k < length events → f (n + k) ≡ get_or events k d)
    → map f (indices_from cpu n events) ≡ touching cpu events
found_from cpu n f [] reads = refl
found_from cpu n f (event ∷ events) reads =
    by (touches_cpu cpu event.act) refl (ap f (omega arith) ∙ reads 0 event (omega arith))
    (found_from cpu (n + 1) f events (λ k d h. ap f (omega arith) ∙ reads (suc k) d (omega arith)))
  where
    by : (b : Bool) → touches_cpu cpu event.act ≡ b → f n ≡ event
        → map f (indices_from cpu (n + 1) events) ≡ touching cpu events
        → map f (map (λ at. at.0) (cond (touches_cpu cpu event.act)
        ((n, event) ∷ filter (λ at. touches_cpu cpu (at.1).act) (enumerate_from (n + 1) events))
        (filter (λ at. touches_cpu cpu (at.1).act) (enumerate_from (n + 1) events))))
        ≡ cond (touches_cpu cpu event.act) (event ∷ touching cpu events) (touching cpu events)
    by true e first rest = rw e (ap (λ x. x ∷ map f (indices_from cpu (n + 1) events)) first
        ∙ ap (λ xs. event ∷ xs) rest)
    by false e first rest = rw e rest

-- the events at the indices are those that touch the processor
pub indices_found : (cpu : ℕ) (events : List Entry) (d : Entry)
    → map (λ index. get_or events index d) (indices_touching cpu events) ≡ touching cpu events
unfolding indices_touching
indices_found cpu events d =
    found_from cpu 0 (λ index. get_or events index d) events
    (λ k e h. ap (λ n. get_or events n d) (omega arith) ∙ get_or_default events k d e h)

-- the same of what is said beside the events
said_from : (cpu n : ℕ) (f : ℕ → Claimed) (events : List Entry) (sayings : List Saying)
    → length sayings ≡ length events
    → ((k : ℕ) (d : Claimed) → k < length events → f (n + k) ≡ get_or (said_beside events sayings) k d)
    → map f (indices_from cpu n events) ≡ filter (touches cpu) (said_beside events sayings)
said_from cpu n f [] sayings paired reads = refl
said_from cpu n f (event ∷ events) [] paired reads = absurd (omega arith)
said_from cpu n f (event ∷ events) (saying ∷ sayings) paired reads =
    by (touches_cpu cpu event.act) refl (ap f (omega arith) ∙ reads 0 (said_of event saying) (omega arith))
    (said_from cpu (n + 1) f events sayings (omega arith)
    (λ k d h. ap f (omega arith) ∙ reads (suc k) d (omega arith)))
  where
    by : (b : Bool) → touches_cpu cpu event.act ≡ b → f n ≡ said_of event saying
        → map f (indices_from cpu (n + 1) events) ≡ filter (touches cpu) (said_beside events sayings)
        → map f (map (λ at. at.0) (cond (touches_cpu cpu event.act)
        ((n, event) ∷ filter (λ at. touches_cpu cpu (at.1).act) (enumerate_from (n + 1) events))
        (filter (λ at. touches_cpu cpu (at.1).act) (enumerate_from (n + 1) events))))
        ≡ cond (touches_cpu cpu event.act) (said_of event saying ∷ filter (touches cpu) (said_beside events sayings))
        (filter (touches cpu) (said_beside events sayings))
    by true e first rest = rw e (ap (λ x. x ∷ map f (indices_from cpu (n + 1) events)) first
        ∙ ap (λ xs. said_of event saying ∷ xs) rest)
    by false e first rest = rw e rest

-- what is said at the indices is what is said of the events that touch the processor
pub said_found : (cpu : ℕ) (events : List Entry) (sayings : List Saying) (d : Claimed)
    → length sayings ≡ length events
    → map (λ index. get_or (said_beside events sayings) index d) (indices_touching cpu events)
    ≡ filter (touches cpu) (said_beside events sayings)
unfolding indices_touching
said_found cpu events sayings d paired =
    said_from cpu 0 (λ index. get_or (said_beside events sayings) index d) events sayings paired
    (λ k e h. ap (λ n. get_or (said_beside events sayings) n d) (omega arith)
    ∙ get_or_default (said_beside events sayings) k d e
    (let n = said_length events sayings (omega arith) in omega (arith, h, n)))

within_from : (cpu n : ℕ) (events : List Entry) → All (λ index. index < n + length events) (indices_from cpu n events)
within_from cpu n [] = All-nil (λ index. index < n + 0)
within_from cpu n (event ∷ events) =
    by (touches_cpu cpu event.act) refl
    (All-weaker (λ index. index < n + 1 + length events) (λ index. index < n + suc (length events))
    (λ index lt. omega arith) (indices_from cpu (n + 1) events)
    (within_from cpu (n + 1) events))
  where
    by : (b : Bool) → touches_cpu cpu event.act ≡ b
        → All (λ index. index < n + suc (length events)) (indices_from cpu (n + 1) events)
        → All (λ index. index < n + suc (length events)) (map (λ at. at.0) (cond (touches_cpu cpu event.act)
        ((n, event) ∷ filter (λ at. touches_cpu cpu (at.1).act) (enumerate_from (n + 1) events))
        (filter (λ at. touches_cpu cpu (at.1).act) (enumerate_from (n + 1) events))))
    by true e rest = rw e (All-cons (λ index. index < n + suc (length events)) n (indices_from cpu (n + 1) events)
        (omega arith) rest)
    by false e rest = rw e rest

-- each is an index among the events
pub indices_within : (cpu : ℕ) (events : List Entry) → All (λ index. index < length events) (indices_touching cpu
    events)
unfolding indices_touching
indices_within cpu events =
    All-weaker (λ index. index < 0 + length events) (λ index. index < length events) (λ index lt. omega arith) _
    (within_from cpu 0 events)

-- each of the indices is one among the events
pub index_below : (cpu : ℕ) (events : List Entry) (indices : List ℕ) (i : ℕ) → indices ≡ indices_touching cpu events
    → i < length indices → get_or indices i 0 < length events
index_below cpu events indices i is h =
    let size = ap length is in
    let within = indices_within cpu events i 0 (omega (arith, size, h)) in
    let same = ap (λ (ps : List ℕ). get_or ps i 0) is in
    omega (arith, within, same)

-- an event with what is said on its line, as a processor sees it
abbrev pub step_of : ℕ → List Claim → List NiceLine → List ChargeLine → (Entry → Policy) → Entry → Step
step_of cpu claims nices charges policy event = step_at cpu (with_claim claims nices charges policy event)

-- the steps at a processor are those of the events that touch it
pub steps_are : (cpu : ℕ) (claims : List Claim) (nices : List NiceLine) (charges : List ChargeLine)
    (policy : Entry → Policy) (events : List Entry)
    → steps_at cpu (claimed claims nices charges policy events)
    ≡ map (step_of cpu claims nices charges policy) (touching cpu events)
steps_are cpu claims nices charges policy [] = refl
steps_are cpu claims nices charges policy (event ∷ events) =
    by (touches_cpu cpu event.act) refl (steps_are cpu claims nices charges policy events)
  where
    by : (b : Bool) → touches_cpu cpu event.act ≡ b
        → steps_at cpu (claimed claims nices charges policy events) ≡ map (step_of cpu claims nices charges policy)
        (touching cpu events)
        → map (step_at cpu) (cond (touches_cpu cpu event.act)
        (with_claim claims nices charges policy event ∷ filter (touches cpu) (claimed claims nices charges policy
        events))
        (filter (touches cpu) (claimed claims nices charges policy events)))
        ≡ map (step_of cpu claims nices charges policy) (cond (touches_cpu cpu event.act) (event ∷ touching cpu events)
        (touching cpu events))
    by true e rest = rw e (ap (λ xs. step_of cpu claims nices charges policy event ∷ xs) rest)
    by false e rest = rw e rest

-- what stands at the next index is the next of these events
pub next_touching : (cpu : ℕ) (events : List Entry) (indices : List ℕ) (i : ℕ) (event : Entry)
    → indices ≡ indices_touching cpu events → i < length indices
    → event ≡ get_or events (get_or indices i 0) event
    → (i < length (touching cpu events)) × (event ≡ get_or (touching cpu events) i event)
next_touching cpu events indices i event are h is =
    let read : ℕ → Entry = λ index. get_or events index event in
    let all : map read indices ≡ touching cpu events = ap (map read) are ∙ indices_found cpu events event in
    let size : length (touching cpu events) ≡ length indices = ap length (sym all) ∙ length-map indices read in
    (omega (arith, size), is ∙ sym (get_or-map read indices i 0 event h) ∙ ap (λ es. get_or es i event) all)

-- there are as many of these as indices
pub count_touching : (cpu : ℕ) (events : List Entry) (indices : List ℕ) → indices ≡ indices_touching cpu events
    → length (touching cpu events) ≤ length indices
count_touching cpu [] indices are = omega arith
count_touching cpu (event ∷ events) indices are =
    let read : ℕ → Entry = λ index. get_or (event ∷ events) index event in
    let size = ap length (sym (indices_found cpu (event ∷ events) event))
    ∙ length-map (indices_touching cpu (event ∷ events)) read ∙ ap length (sym are) in
    omega (arith, size)
