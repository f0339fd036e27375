-- What events give at all processors below a number is what they give: each of them gives it at those that it touches,
-- which differ and are below that number.
use Rattle.std.proofs.Common.{◌≡◌, ◌≢◌, ℕ, zero, suc, ◌+◌, ◌<◌, nat_eq, Bool, true, false, ◌||◌, cond, List, [], ◌∷◌}
use Rattle.std.proofs.Common.{map, sum, inl, inr, refl, sym, ap, ◌∙◌, arith}
use Rattle.std.specs.List.{AllByRecursion, list_any}
use Rattle.std.proofs.lemmas.Bool.{eq-eqb, ne_eqb}
use Rattle.std.proofs.lemmas.List.Sums.{sum_by-cons}
use Rattle.cfs_model.specs.Knobs.{KnobsView}
use Rattle.cfs_model.specs.Machine.{Machine}
use Rattle.cfs_model.specs.Claimed.{Claimed}
use Rattle.cfs_model.specs.Touch.{touched}
use Rattle.cfs_model.specs.Step.{Changes, IsStep}
use Rattle.cfs_model.specs.Run.{AreSteps}
use Rattle.replay_model.specs.Cut.{touches}
use Rattle.replay_model.specs.Summary.{picks, added_up, how_many}
use Rattle.cfs_model.proofs.Moves.{same_or_not}
use Rattle.tally_laws.proofs.TalliesInRun.{Amount, picked_by, amount_at}
use Rattle.cfs_model.specs.declared.act.Act.{Act}
use Rattle.cfs_model.specs.declared.act.Act.TheVariants.{Switch, Wake, Born, Shift}

-- the sum over the numbers below one
abbrev pub sum_below : (ℕ → ℕ) → ℕ → ℕ
sum_below f zero = 0
sum_below f (suc n) = sum_below f n + f n

pub below_same : (f g : ℕ → ℕ) (n : ℕ) → ((k : ℕ) → k < n → f k ≡ g k) → sum_below f n ≡ sum_below g n
below_same f g zero e = refl
below_same f g (suc n) e =
    let a = below_same f g n (λ k h. e k (omega arith)) in let b = e n (omega arith) in omega arith

below_add : (f g : ℕ → ℕ) (n : ℕ) → sum_below (λ k. f k + g k) n ≡ sum_below f n + sum_below g n
below_add f g zero = refl
below_add f g (suc n) = let a = below_add f g n in omega arith

below_none : (f : ℕ → ℕ) (n : ℕ) → ((k : ℕ) → k < n → f k ≡ 0) → sum_below f n ≡ 0
below_none f zero e = refl
below_none f (suc n) e = let a = below_none f n (λ k h. e k (omega arith)) in let b = e n (omega arith) in omega arith

-- of one number below
abbrev at_one : ℕ → (ℕ → ℕ) → ℕ → ℕ
at_one a f k = cond (nat_eq a k) (f k) 0

at_itself : (a : ℕ) (f : ℕ → ℕ) (n : ℕ) → a ≡ n → at_one a f n ≡ f a
at_itself a f n e = ap (λ b. cond b (f n) 0) (eq-eqb a n e) ∙ ap f (sym e)

at_other : (a : ℕ) (f : ℕ → ℕ) (n : ℕ) → a ≢ n → at_one a f n ≡ 0
at_other a f n ne = ap (λ b. cond b (f n) 0) (ne_eqb a n ne)

below_one : (a : ℕ) (f : ℕ → ℕ) (n : ℕ) → a < n → sum_below (at_one a f) n ≡ f a
below_one a f zero h = absurd (omega arith)
below_one a f (suc n) h = elim (same_or_not a n) [
  | inl e ↦ (let none = below_none (at_one a f) n (λ k below. at_other a f k (λ same. absurd (omega arith))) in
      let one = at_itself a f n e in omega arith)
  | inr ne ↦ (let rest = below_one a f n (omega arith) in let none = at_other a f n ne in omega arith)
]

-- what an amount gives at the numbers of a list, over all numbers below one
abbrev at_some : List ℕ → (ℕ → ℕ) → ℕ → ℕ
at_some cpus f k = cond (list_any (λ other. nat_eq other k) cpus) (f k) 0

some_one : (a : ℕ) (f : ℕ → ℕ) (n : ℕ) → a < n → sum_below (at_some (a ∷ []) f) n ≡ sum (map f (a ∷ []))
some_one a f n h =
    below_same (at_some (a ∷ []) f) (at_one a f) n (λ k below. go (nat_eq a k) (f k)) ∙ below_one a f n h ∙ alone
  where
    alone : f a ≡ sum (map f (a ∷ []))
    alone = omega arith

    go : (b : Bool) (x : ℕ) → cond (b || false) x 0 ≡ cond b x 0
    go true x = refl
    go false x = refl

some_two : (a b : ℕ) (f : ℕ → ℕ) (n : ℕ) → a ≢ b → a < n → b < n
    → sum_below (at_some (a ∷ b ∷ []) f) n ≡ sum (map f (a ∷ b ∷ []))
some_two a b f n ne h k =
    below_same (at_some (a ∷ b ∷ []) f) (λ i. at_one a f i + at_one b f i) n (λ i below. each i)
    ∙ below_add (at_one a f) (at_one b f) n ∙ both
  where
    both : sum_below (at_one a f) n + sum_below (at_one b f) n ≡ sum (map f (a ∷ b ∷ []))
    both = let x = below_one a f n h in let y = below_one b f n k in omega arith

    each : (i : ℕ) → at_some (a ∷ b ∷ []) f i ≡ at_one a f i + at_one b f i
    each i = elim (same_or_not a i) [
      | inl e ↦ (let none = at_other b f i (λ same. ne (e ∙ sym same)) in
          let here : at_some (a ∷ b ∷ []) f i ≡ f i =
          ap (λ c. cond (c || (nat_eq b i || false)) (f i) 0) (eq-eqb a i e) in
          let one : at_one a f i ≡ f i = ap (λ c. cond c (f i) 0) (eq-eqb a i e) in omega arith)
      | inr other ↦ (let none = at_other a f i other in
          let here : at_some (a ∷ b ∷ []) f i ≡ at_one b f i =
          ap (λ c. cond (c || (nat_eq b i || false)) (f i) 0) (ne_eqb a i other) ∙ go (nat_eq b i) (f i) in omega arith)
    ]
      where
        go : (c : Bool) (x : ℕ) → cond (c || false) x 0 ≡ cond c x 0
        go true x = refl
        go false x = refl

-- what an event gives at all processors is what it gives at those that it touches
event_addends : (knobs : KnobsView) (m : Machine) (event : Claimed) (after : Machine) → IsStep knobs m event after
    → (f : ℕ → ℕ) (n : ℕ) → AllByRecursion (λ (cpu : ℕ). cpu < n) (touched event.entry.act)
    → sum_below (λ cpu. cond (touches cpu event) (f cpu) 0) n ≡ sum (map f (touched event.entry.act))
event_addends knobs m event after s f n within = go event.entry.act within s.changes
  where
    go : (act : Act) → AllByRecursion (λ (cpu : ℕ). cpu < n) (touched act)
        → Changes knobs s.found act event.claim event.policy after
        → sum_below (at_some (touched act) f) n ≡ sum (map f (touched act))
    go (Switch cpu prev pn way next nn) h c = some_one cpu f n h.0
    go (Wake cpu pid nice) h c = some_one cpu f n h.0
    go (Born cpu pid nice) h c = some_one cpu f n h.0
    go (Shift orig dest pid nice) h c = some_two orig dest f n c.differ h.0 h.1.0

-- what events give at the processors that they touch
abbrev pub given_by : Amount → Machine → List Claimed → List Machine → ℕ
given_by amount m [] states = 0
given_by amount m (event ∷ events) [] = 0
given_by amount m (event ∷ events) (after ∷ states) =
    sum (map (amount m event) (touched event.entry.act)) + given_by amount after events states

-- the addends of all processors are all that is given
pub all_addends : (knobs : KnobsView) (amount : Amount) (n : ℕ) (m : Machine) (events : List Claimed)
    (states : List Machine) → AreSteps knobs m events states
    → AllByRecursion (λ (event : Claimed). AllByRecursion (λ (cpu : ℕ). cpu < n) (touched event.entry.act)) events
    → sum_below (λ cpu. amount_at amount cpu m events states) n ≡ given_by amount m events states
all_addends knobs amount n m [] states steps within = below_none (λ cpu. 0) n (λ k h. refl)
all_addends knobs amount n m (event ∷ events) [] steps within = absurd steps
all_addends knobs amount n m (event ∷ events) (after ∷ states) steps within =
    let a = below_add (λ cpu. cond (touches cpu event) (amount m event cpu) 0)
    (λ cpu. amount_at amount cpu after events states) n in
    let b = event_addends knobs m event after steps.0 (amount m event) n within.0 in
    let c = all_addends knobs amount n after events states steps.1 within.1 in
    omega arith

-- which is how the tally of a run adds up, and how often a pid is picked
pub given_is_added : (amount : Amount) (m : Machine) (events : List Claimed) (states : List Machine)
    → given_by amount m events states ≡ added_up amount m events states
given_is_added amount m [] states = refl
given_is_added amount m (event ∷ events) [] = refl
given_is_added amount m (event ∷ events) (after ∷ states) =
    ap (λ n. sum (map (amount m event) (touched event.entry.act)) + n)
    (given_is_added amount after events states)

-- an event picks at the one processor that it touches, if it picks
pick_given : (pid : ℕ) (act : Act) → sum (map (λ (cpu : ℕ). cond (picks pid act) 1 0) (touched act))
    ≡ cond (picks pid act) 1 0
pick_given pid (Switch cpu prev pn way zero nn) = refl
pick_given pid (Switch cpu prev pn way (suc n) nn) = omega arith
pick_given pid (Wake cpu task nice) = refl
pick_given pid (Born cpu task nice) = refl
pick_given pid (Shift orig dest task nice) = refl

pub given_is_counted : (knobs : KnobsView) (pid : ℕ) (m : Machine) (events : List Claimed) (states : List Machine)
    → AreSteps knobs m events states
    → given_by (picked_by pid) m events states ≡ how_many (picks pid) events
given_is_counted knobs pid m [] states steps = refl
given_is_counted knobs pid m (event ∷ events) [] steps = absurd steps
given_is_counted knobs pid m (event ∷ events) (after ∷ states) steps =
    let a = pick_given pid event.entry.act in
    let b = given_is_counted knobs pid after events states steps.1 in
    let c = sum_by-cons (λ (e : Claimed). cond (picks pid e.entry.act) 1 0) event events in
    omega arith
