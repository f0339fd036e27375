-- How far the tallies have grown after a step.
use Rattle.std.proofs.Common.{ℕ, zero, suc, ◌+◌, ◌*◌, ◌^◌, ◌≤◌, Bool, true, false, cond, eqb, List, []}
use Rattle.std.proofs.Common.{◌∷◌, ◌++◌, All, map, Option, Some, None, IfSome, arith}
use Rattle.std.specs.List.{list_any}
use Rattle.std.proofs.lemmas.List.Elements.{All-map, All-weaker, All-push}
use Rattle.replay_model.specs.Noted.{with_tally, new_tally, tallied}
use Rattle.replay_model.specs.declared.page.Tally.{Tally}
use Rattle.replay_model.specs.declared.step.Deed.{Deed}
use Rattle.replay_model.specs.declared.step.Deed.TheVariants.{Switch, Wake, Born, Leave, Arrive}
use Rattle.queue_replay.specs.Stretches.{ran_tally, picked_tally, IsWithin, stretched}
use Rattle.queue_replay.specs.declared.stretch.Stretch.{Stretch}

-- a tally with its last stretch, before a pick
abbrev pub IsRan : ℕ → Tally → Type 0
IsRan steps tally = (tally.ran ≤ (steps + 1) * 2 ^ 64) × (tally.charged ≤ (steps + 1) * 2 ^ 64) × (tally.picks ≤ steps)

kept_ran : (steps : ℕ) (tally : Tally) → IsWithin steps tally → IsRan steps tally
kept_ran steps tally w = (let h = w.0 in omega arith, let h = w.1 in omega arith, w.2)

ran_ran : (steps pid time cost : ℕ) (tally : Tally) → time ≤ 2 ^ 64 → cost ≤ 2 ^ 64 → IsWithin steps tally
    → IsRan steps (ran_tally pid time cost tally)
ran_ran steps pid time cost tally short cheap w = go (eqb tally.pid pid)
  where
    go : (b : Bool) → IsRan steps (cond b
        (record tally { ran = tally.ran + time; charged = tally.charged + cost }) tally)
    go true = (let h = w.0 in omega arith, let h = w.1 in omega arith, w.2)
    go false = kept_ran steps tally w

pub stretched_ran : (steps : ℕ) (stretch : Option Stretch) (tallies : List Tally)
    → IfSome stretch (λ x. (x.time ≤ 2 ^ 64) × (x.cost ≤ 2 ^ 64))
    → All (IsWithin steps) tallies → All (IsRan steps) (stretched stretch tallies)
stretched_ran steps None tallies fits w =
    All-weaker (IsWithin steps) (IsRan steps) (kept_ran steps) tallies w
stretched_ran steps (Some x) tallies fits w =
    All-map (IsRan steps) (ran_tally x.pid x.time x.cost) tallies
    (All-weaker (IsWithin steps) (λ tally. IsRan steps (ran_tally x.pid x.time x.cost tally))
    (λ tally h. ran_ran steps x.pid x.time x.cost tally fits.0 fits.1 h) tallies w)

pub ran_picks : (steps : ℕ) (tallies : List Tally) → All (IsRan steps) tallies
    → All (λ tally. tally.picks ≤ steps) tallies
ran_picks steps tallies w = All-weaker (IsRan steps) (λ tally. tally.picks ≤ steps) (λ tally h. h.2) tallies w

ran_within : (steps : ℕ) (tally : Tally) → IsRan steps tally → IsWithin (steps + 1) tally
ran_within steps tally w = (w.0, w.1, let h = w.2 in omega arith)

pick_within : (steps pid : ℕ) (tally : Tally) → IsRan steps tally → IsWithin (steps + 1) (picked_tally pid tally)
pick_within steps pid tally w = go (eqb tally.pid pid)
  where
    go : (b : Bool) → IsWithin (steps + 1) (cond b (record tally { picks = tally.picks + 1 }) tally)
    go true = (w.0, w.1, let h = w.2 in omega arith)
    go false = ran_within steps tally w

all_within : (steps : ℕ) (tallies : List Tally) → All (IsRan steps) tallies → All (IsWithin (steps + 1)) tallies
all_within steps tallies w = All-weaker (IsRan steps) (IsWithin (steps + 1)) (ran_within steps) tallies w

with_within : (steps pid : ℕ) (tallies : List Tally) → All (IsRan steps) tallies
    → All (IsWithin (steps + 1)) (with_tally pid tallies)
with_within steps pid tallies w = go (list_any (λ tally. eqb tally.pid pid) tallies)
  where
    go : (b : Bool) → All (IsWithin (steps + 1)) (cond b tallies (tallies ++ new_tally pid ∷ []))
    go true = all_within steps tallies w
    go false = All-push (IsWithin (steps + 1)) tallies (new_tally pid) (all_within steps tallies w)
        (omega arith, omega arith, omega arith)

pub tallied_within : (steps : ℕ) (deed : Deed) (tallies : List Tally) → All (IsRan steps) tallies
    → All (IsWithin (steps + 1)) (tallied deed tallies)
tallied_within steps (Switch prev prev_nice way zero next_nice) tallies w = all_within steps tallies w
tallied_within steps (Switch prev prev_nice way (suc n) next_nice) tallies w =
    All-map (IsWithin (steps + 1)) (picked_tally (suc n)) tallies
    (All-weaker (IsRan steps) (λ tally. IsWithin (steps + 1) (picked_tally (suc n) tally))
    (pick_within steps (suc n)) tallies w)
tallied_within steps (Wake pid nice) tallies w = all_within steps tallies w
tallied_within steps (Born pid nice policy) tallies w = with_within steps pid tallies w
tallied_within steps (Leave pid nice dest) tallies w = all_within steps tallies w
tallied_within steps (Arrive pid nice orig policy) tallies w = with_within steps pid tallies w

-- at the start nobody has run
pub new_within : (pids : List ℕ) → All (IsWithin 0) (map new_tally pids)
new_within pids = All-map (IsWithin 0) new_tally pids (λ k d h. (omega arith, omega arith, omega arith))
