-- The replay of a list of steps: one more step at the end, and what a replay without a fault says of each step.
use Rattle.std.proofs.Common.{◌≡◌, ℕ, Some, None, ◌⊎◌, inl, inr, List, [], ◌∷◌, ◌++◌, refl, sym, ap, ◌∙◌, subst}
use Rattle.cfs_model.specs.Knobs.{KnobsView}
use Rattle.replay_model.specs.Page.{ReplayStateView, PassesStep, FailsStep, IsReplayStep, IsReplay}
use Rattle.replay_model.specs.declared.page.StepFault.{StepFault}
use Rattle.replay_model.specs.declared.step.Step.{Step}

-- one more step
pub IsReplay-push : (knobs : KnobsView) (cpu : ℕ) (before : ReplayStateView) (steps : List Step)
    (between : ReplayStateView)
    (step : Step) (after : ReplayStateView)
    → IsReplay knobs cpu before steps between → IsReplayStep knobs cpu between.page.fault between step after
    → IsReplay knobs cpu before (steps ++ step ∷ []) after
IsReplay-push knobs cpu before [] between step after r s =
    (after, subst (λ x. IsReplayStep knobs cpu x.page.fault x step after) r s, refl)
IsReplay-push knobs cpu before (first ∷ steps) between step after r s =
    (r.0, r.1, IsReplay-push knobs cpu r.0 steps between step after r.2 s)

-- a list of steps in two parts
pub IsReplay-append : (knobs : KnobsView) (cpu : ℕ) (before : ReplayStateView) (steps more : List Step)
    (between after : ReplayStateView)
    → IsReplay knobs cpu before steps between → IsReplay knobs cpu between more after
    → IsReplay knobs cpu before (steps ++ more) after
IsReplay-append knobs cpu before [] more between after r s = subst (λ x. IsReplay knobs cpu x more after) r s
IsReplay-append knobs cpu before (first ∷ steps) more between after r s =
    (r.0, r.1, IsReplay-append knobs cpu r.0 steps more between after r.2 s)

-- after a fault nothing changes
pub stays_faulted : (knobs : KnobsView) (cpu : ℕ) (before : ReplayStateView) (steps : List Step)
    (after : ReplayStateView)
    (fault : StepFault)
    → before.page.fault ≡ Some fault → IsReplay knobs cpu before steps after → after ≡ before
stays_faulted knobs cpu before [] after fault e r = r
stays_faulted knobs cpu before (step ∷ steps) after fault e r =
    let same : r.0 ≡ before = subst (λ o. IsReplayStep knobs cpu o before step r.0) e r.1 in
    stays_faulted knobs cpu r.0 steps after fault (ap (λ x. x.page.fault) same ∙ e) r.2 ∙ same

-- in a replay that ends without a fault the first step passed, and no fault came from it
pub first_passes : (knobs : KnobsView) (cpu : ℕ) (before : ReplayStateView) (step : Step) (between : ReplayStateView)
    (steps : List Step) (after : ReplayStateView)
    → before.page.fault ≡ None → IsReplayStep knobs cpu before.page.fault before step between
    → IsReplay knobs cpu between steps after → after.page.fault ≡ None
    → PassesStep knobs cpu before step between × (between.page.fault ≡ None)
first_passes knobs cpu before step between steps after e s r f = go
    (subst (λ o. IsReplayStep knobs cpu o before step between) e s)
  where
    go : PassesStep knobs cpu before step between ⊎ FailsStep knobs cpu before step between
        → PassesStep knobs cpu before step between × (between.page.fault ≡ None)
    go (inl p) = (p, ap (λ x. x.fault) p.page)
    go (inr p) =
        let fault : between.page.fault ≡ Some _ = ap (λ x. x.page.fault) p.result in
        let last : after.page.fault ≡ Some _ = ap (λ x. x.page.fault)
        (stays_faulted knobs cpu between steps after _ fault r) ∙ fault in
        let k = sym f ∙ last in absurd cc
