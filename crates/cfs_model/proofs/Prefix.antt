-- A prefix of a run: the states of a prefix of the events are a prefix of the states, and states and times of a prefix
-- are read at the same numbers.
use Rattle.std.proofs.Common.{◌≡◌, ℕ, zero, suc, ◌+◌, ◌<◌, ◌≤◌, List, [], ◌∷◌, ◌++◌, length, map, slice_get, get_or}
use Rattle.std.proofs.Common.{IsSomeAnd, refl, sym, ap, subst, arith, length-append, le_of_suc-le-suc}
use Rattle.cfs_model.specs.Knobs.{KnobsView}
use Rattle.cfs_model.specs.Machine.{Machine}
use Rattle.cfs_model.specs.Claimed.{Claimed}
use Rattle.cfs_model.specs.Idling.{Idles, KeepsSlack}
use Rattle.cfs_model.specs.Run.{AreSteps, times_of, IsRun}

-- the states of a prefix of the events
front_steps : (knobs : KnobsView) (first : Machine) (events rest : List Claimed) (states : List Machine)
    → AreSteps knobs first (events ++ rest) states
    → (front : List Machine) × (back : List Machine) × (states ≡ front ++ back) × AreSteps knobs first events front
front_steps knobs first [] rest states steps = ([], states, refl, tt)
front_steps knobs first (event ∷ events) rest [] steps = absurd steps
front_steps knobs first (event ∷ events) rest (m ∷ states) steps =
    let t = front_steps knobs m events rest states steps.1 in
    (m ∷ t.0, t.1, ap (λ xs. m ∷ xs) t.2, (steps.0, t.3))

-- as many states as events
pub steps_length : (knobs : KnobsView) (first : Machine) (events : List Claimed) (states : List Machine)
    → AreSteps knobs first events states → length states ≡ length events
steps_length knobs first [] [] steps = refl
steps_length knobs first [] (m ∷ states) steps = absurd steps
steps_length knobs first (event ∷ events) [] steps = absurd steps
steps_length knobs first (event ∷ events) (m ∷ states) steps = ap suc (steps_length knobs m events states steps.1)

pub slice_get-append_left : (xs ys : List Machine) (n : ℕ) → n < length xs → slice_get (xs ++ ys) n ≡ slice_get xs n
slice_get-append_left [] ys n h = absurd (omega arith)
slice_get-append_left (x ∷ xs) ys zero h = refl
slice_get-append_left (x ∷ xs) ys (suc n) h = slice_get-append_left xs ys n (le_of_suc-le-suc h)

-- the time of an event of the front
time_in_front : (events rest : List Claimed) (n : ℕ) → n < length events
    → get_or (map (λ (e : Claimed). e.entry.time) (events ++ rest)) n 0 ≡ get_or
    (map (λ (e : Claimed). e.entry.time) events) n 0
time_in_front [] rest n h = absurd (omega arith)
time_in_front (e ∷ events) rest zero h = refl
time_in_front (e ∷ events) rest (suc n) h = time_in_front events rest n (le_of_suc-le-suc h)

pub start_time_at : (start : ℕ) (events rest : List Claimed) (n : ℕ) → n < suc (length events)
    → get_or (times_of start (events ++ rest)) n 0 ≡ get_or (times_of start events) n 0
start_time_at start events rest zero h = refl
start_time_at start events rest (suc n) h = time_in_front events rest n (le_of_suc-le-suc h)

pub front_slack : (slack start : ℕ) (first : Machine) (events rest : List Claimed) (front back : List Machine)
    → length front ≡ length events → KeepsSlack slack (times_of start (events ++ rest)) (first ∷ (front ++ back))
    → KeepsSlack slack (times_of start events) (first ∷ front)
front_slack slack start first events rest front back same keeps cpu i j below within idles =
    let at_i = start_time_at start events rest i (omega arith) in
    let at_j = start_time_at start events rest j (omega arith) in
    let h : get_or (times_of start (events ++ rest)) j 0 ≤ get_or (times_of start (events ++ rest)) i 0 + slack =
    keeps cpu i j below (omega (arith, length-append front back))
    (λ n low high. subst (λ o. IsSomeAnd o (λ m. Idles m cpu))
    (sym (slice_get-append_left (first ∷ front) back n (omega arith))) (idles n low high)) in
    omega arith

pub run_prefix : (knobs : KnobsView) (start : ℕ) (first : Machine) (events rest : List Claimed)
    → IsRun knobs start first (events ++ rest) → IsRun knobs start first events
run_prefix knobs start first events rest run =
    let t = front_steps knobs first events rest run.states run.steps in
    record {
      states = t.0;
      steps = t.3;
      slack = front_slack knobs.slack start first events rest t.0 t.1 (steps_length knobs first events t.0 t.3)
          (subst (λ states. KeepsSlack knobs.slack (times_of start (events ++ rest)) (first ∷ states)) t.2 run.slack);
    }
