-- A replay by some steps and then by those behind them went through all of these.
use Rattle.std.proofs.Common.{◌≡◌, ℕ, ◌+◌, ◌^◌, ◌<◌, ◌≤◌, List, [], ◌∷◌, ◌++◌, length, take, get_or}
use Rattle.std.proofs.Common.{Option, Some, None, refl, sym}
use Rattle.std.proofs.Common.{ap, ◌∙◌, subst, arith}
use Rattle.std.proofs.lemmas.List.{length-append, length-take, take_all, take_more}
use Rattle.cfs_model.specs.Least.{larger}
use Rattle.cfs_model.proofs.LeastSettings.{larger_of_three}
use Rattle.replay_model.specs.Needs.{AllPassNeeding}
use Rattle.replay_model.specs.Page.{IsReplay}
use Rattle.replay_model.specs.declared.page.StepFault.{StepFault}
use Rattle.replay_model.specs.declared.step.Step.{Step}
use Rattle.replay_model.proofs.Replayed.{IsReplay-append, stays_faulted}
use Rattle.queue_replay.specs.Windowed.{GoesThrough, WindowedView}
use Rattle.window_laws.proofs.NeedsAppended.{needs_append}

-- what had a fault has it behind more steps
none_before : (before : WindowedView) (steps : List Step) (after : WindowedView) → GoesThrough before steps after
    → after.state.page.fault ≡ None → before.state.page.fault ≡ None
none_before before steps after g none = by before.state.page.fault refl
  where
    by : (o : Option StepFault) → before.state.page.fault ≡ o → before.state.page.fault ≡ None
    by None e = e
    by (Some fault) e =
        ap (λ s. s.page.fault) (sym (stays_faulted before.knobs before.cpu before.state steps after.state fault e
        g.replay)) ∙ none

pub goes_on : (before between after : WindowedView) (steps more : List Step)
    → GoesThrough before steps between → GoesThrough between more after → GoesThrough before (steps ++ more) after
goes_on before between after steps more g h = record {
  cpu = h.cpu ∙ g.cpu;
  knobs = h.knobs ∙ g.knobs;
  replay = IsReplay-append before.knobs before.cpu before.state steps more between.state after.state g.replay
      (subst (λ k. IsReplay k before.cpu between.state more after.state) g.knobs
      (subst (λ n. IsReplay between.knobs n between.state more after.state) g.cpu h.replay));
  at_most = (let n = length-append steps more in let a = g.at_most in let b = h.at_most in omega (arith, n, a, b));
  raises = λ none.
      let r = g.raises (none_before between more after h none) in
      let s = h.raises none in
      record {
        here = larger r.here s.here;
        passes = needs_append before.knobs before.cpu before.state between.state after.state steps more r.here s.here
            r.passes
            (subst (λ k. AllPassNeeding k before.cpu between.state more after.state s.here) g.knobs
            (subst (λ n. AllPassNeeding between.knobs n between.state more after.state s.here) g.cpu s.passes));
        needs = s.needs ∙ ap (λ n. larger n s.here) r.needs ∙ larger_of_three before.needs r.here s.here;
        all = (let n = length-append steps more in let a = r.all in let b = s.all in omega (arith, n, a, b));
      };
}

-- so many of all steps are made
module _ (before : WindowedView) (all : List Step) (k : ℕ) (now : WindowedView)
    (made : GoesThrough before (take k all) now) where
  -- there is room to count one more
  pub room_for_one : k < length all → before.made + length all < 2 ^ 64 → now.made + 1 < 2 ^ 64
  room_for_one h few =
      let n = length-take k all in
      let m = made.at_most in
      omega (arith, n, m, h, few)

  pub one_more : (new : WindowedView) (step : Step) → k < length all → get_or all k step ≡ step
      → GoesThrough now (step ∷ []) new → GoesThrough before (take (k + 1) all) new
  one_more new step h is g =
      subst (λ l. GoesThrough before l new)
      (ap (λ s. take k all ++ s ∷ []) (sym is) ∙ sym (take_more all k step h))
      (goes_on before now new (take k all) (step ∷ []) made g)

  pub all_made : length all ≤ k → GoesThrough before all now
  all_made end = subst (λ l. GoesThrough before l now) (take_all k all end) made
