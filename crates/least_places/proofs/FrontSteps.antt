-- The steps of the events up to one have lines that are at most its own, and those of the events behind it have greater
-- ones.
use Rattle.std.proofs.Common.{◌≡◌, ℕ, suc, ◌<◌, ◌≤◌, Bool, true, false, cond, List, [], ◌∷◌, ◌++◌, take}
use Rattle.std.proofs.Common.{map, filter, refl, sym, ap, ◌∙◌, subst, append_assoc, arith}
use Rattle.std.proofs.lemmas.Bool.{le-leb, lt-leb}
use Rattle.std.specs.List.{AllByRecursion}
use Rattle.cfs_model.specs.Claimed.{Claimed}
use Rattle.replay_model.specs.Cut.{steps_at, touches}
use Rattle.replay_model.specs.StepAt.{step_at}
use Rattle.replay_model.specs.Record.{LinesRise}
use Rattle.replay_model.specs.declared.step.Step.{Step}
use Rattle.replay_laws.proofs.composing.StepLines.{lines_back, steps_above, steps_below}
use Rattle.least_places.specs.Walks.{steps_to}

none_past : (line : ℕ) (ys : List Step) → AllByRecursion (λ (step : Step). line < step.line) ys
    → take (steps_to line ys) ys ≡ []
none_past line [] above = refl
none_past line (y ∷ ys) above =
    ap (λ b. take (cond b (suc (steps_to line ys)) 0) (y ∷ ys)) (lt-leb y.line line above.0)

taken : (line : ℕ) (xs ys : List Step) → AllByRecursion (λ (step : Step). step.line ≤ line) xs
    → AllByRecursion (λ (step : Step). line < step.line) ys → take (steps_to line (xs ++ ys)) (xs ++ ys) ≡ xs
taken line [] ys most above = none_past line ys above
taken line (x ∷ xs) ys most above =
    ap (λ b. take (cond b (suc (steps_to line (xs ++ ys))) 0) (x ∷ (xs ++ ys))) (le-leb x.line line most.0)
    ∙ ap (λ rest. x ∷ rest) (taken line xs ys most.1 above)

pub steps_append : (cpu : ℕ) (front back : List Claimed)
    → steps_at cpu (front ++ back) ≡ steps_at cpu front ++ steps_at cpu back
steps_append cpu [] back = refl
steps_append cpu (event ∷ front) back = go (touches cpu event) (steps_append cpu front back)
  where
    go : (b : Bool) → steps_at cpu (front ++ back) ≡ steps_at cpu front ++ steps_at cpu back
        → map (step_at cpu) (cond b (event ∷ filter (touches cpu) (front ++ back)) (filter (touches cpu)
        (front ++ back)))
        ≡ map (step_at cpu) (cond b (event ∷ filter (touches cpu) front) (filter (touches cpu) front))
        ++ steps_at cpu back
    go true k = ap (λ steps. step_at cpu event ∷ steps) k
    go false k = k

own_line : (cpu : ℕ) (event : Claimed)
    → AllByRecursion (λ (step : Step). step.line ≤ event.entry.line) (steps_at cpu (event ∷ []))
own_line cpu event = go (touches cpu event)
  where
    go : (b : Bool) → AllByRecursion (λ (step : Step). step.line ≤ event.entry.line)
        (map (step_at cpu) (cond b (event ∷ []) []))
    go true = (omega arith, tt)
    go false = tt

most_of : (line : ℕ) (xs ys : List Step) → AllByRecursion (λ (step : Step). step.line < line) xs
    → AllByRecursion (λ (step : Step). step.line ≤ line) ys
    → AllByRecursion (λ (step : Step). step.line ≤ line) (xs ++ ys)
most_of line [] ys less most = most
most_of line (x ∷ xs) ys less most =
    (let l : x.line < line = less.0 in omega arith, most_of line xs ys less.1 most)

-- so many steps of a processor are those of the events up to the one on that line
pub steps_up_to : (cpu from : ℕ) (before rest : List Claimed) (event : Claimed) → LinesRise from
    (before ++ event ∷ rest)
    → take (steps_to event.entry.line (steps_at cpu (before ++ event ∷ rest))) (steps_at cpu (before ++ event ∷ rest))
    ≡ steps_at cpu (before ++ event ∷ [])
steps_up_to cpu from before rest event rise =
    let line = event.entry.line in
    let upto = before ++ event ∷ [] in
    let all : steps_at cpu (before ++ event ∷ rest) ≡ steps_at cpu upto ++ steps_at cpu rest =
    ap (steps_at cpu) (sym (append_assoc before (event ∷ []) rest)) ∙ steps_append cpu upto rest in
    let most : AllByRecursion (λ (step : Step). step.line ≤ line) (steps_at cpu upto) =
    subst (AllByRecursion (λ (step : Step). step.line ≤ line)) (sym (steps_append cpu before (event ∷ [])))
    (most_of line (steps_at cpu before) (steps_at cpu (event ∷ [])) (steps_below cpu from before rest event rise)
    (own_line cpu event)) in
    let above = steps_above line cpu rest (lines_back from before (event ∷ rest) rise).1 in
    ap (λ steps. take (steps_to line steps) steps) all
    ∙ taken line (steps_at cpu upto) (steps_at cpu rest) most above
