-- A replay that notes where its needs rise, by one step more.
use Rattle.std.proofs.Common.{◌≡◌, ℕ, ◌<◌, ◌≤◌, nat_lt, Bool, true, false, if◌then◌else◌, Option, Some, None}
use Rattle.std.proofs.Common.{List, [], ◌∷◌}
use Rattle.std.proofs.Common.{◌++◌, refl, sym, ap, ◌∙◌, subst, arith}
use Rattle.std.proofs.lemmas.Bool.{ltb-true}
use Rattle.std.proofs.lemmas.List.{length-append}
use Rattle.cfs_model.specs.Knobs.{value_at}
use Rattle.cfs_model.specs.Least.{larger}
use Rattle.cfs_model.specs.declared.setting.Setting.{Setting}
use Rattle.cfs_model.proofs.LeastSettings.{larger_of_three}
use Rattle.queue_replay.specs.Windowed.{GoesThrough, RaisesNeeds, WindowedView}
use Rattle.queue_replay.proofs.Windows.{through_none}
use Rattle.replay_model.specs.Needs.{AllPassNeeding, only_slack}
use Rattle.replay_model.specs.Page.{IsReplay}
use Rattle.replay_model.specs.Part.{Part}
use Rattle.replay_model.specs.declared.page.StepFault.{StepFault}
use Rattle.replay_model.specs.declared.step.Step.{Step}
use Rattle.replay_model.proofs.Replayed.{IsReplay-append, stays_faulted}
use Rattle.window_laws.proofs.NeedsAppended.{needs_append}
use Rattle.need_laws.specs.Rising.{RoseBy}
use Rattle.need_laws.proofs.RoseLast.{larger_none, no_slack_at, rises_by_next, stays_by_next}
use Rattle.least_audit.specs.Pursuit.{FollowsOn, IsNoted, Pursues}
use Rattle.least_audit.specs.Rises.{rise_at}
use Rattle.least_audit.proofs.Lists.{not_below}
use Rattle.least_audit.specs.declared.rise.Rise.{Rise}
use Rattle.least_audit.specs.declared.rise.Rises.{Rises}

-- what had a fault has it behind more steps
none_before : (before : WindowedView) (steps : List Step) (after : WindowedView) → GoesThrough before steps after
    → after.state.page.fault ≡ None → before.state.page.fault ≡ None
none_before before steps after g none = by before.state.page.fault refl
  where
    by : (o : Option StepFault) → before.state.page.fault ≡ o → before.state.page.fault ≡ None
    by None e = e
    by (Some fault) e =
        ap (λ s. s.page.fault) (sym (stays_faulted before.knobs before.cpu before.state steps after.state fault e
        g.replay)) ∙ none

-- by no steps it stays where it is, and nothing is noted
pub pursues_none : (at : WindowedView) (rises : Rises) → ((which : Setting) → rise_at rises which ≡ None)
    → Pursues at [] at rises
pursues_none at rises none = record {
  through = through_none at;
  noted = λ fine. (
    record {
      here = only_slack 0;
      passes = (refl, refl);
      needs = sym (larger_none at.needs);
      all = omega arith;
    },
    (λ which. subst (IsNoted at [] at (only_slack 0) which) (sym (none which)) (low which)),
  );
}
  where
    low : (which : Setting) → value_at (only_slack 0) which ≤ value_at at.needs which
    low which = let e = no_slack_at which in omega (arith, e)

module _ (before now after : WindowedView) (steps : List Step) (step : Step) (rises new : Rises)
    (p : Pursues before steps now rises) (f : FollowsOn now rises step after new) where
  was : after.state.page.fault ≡ None → now.state.page.fault ≡ None
  was none = none_before now (step ∷ []) after f.through none

  -- what the step needs, by the settings and the processor that the replay began with
  step_needs : (none : after.state.page.fault ≡ None)
      → AllPassNeeding before.knobs before.cpu now.state (step ∷ []) after.state (f.through.raises none).here
  step_needs none =
      subst (λ k. AllPassNeeding k before.cpu now.state (step ∷ []) after.state (f.through.raises none).here)
      p.through.knobs
      (subst (λ n. AllPassNeeding now.knobs n now.state (step ∷ []) after.state (f.through.raises none).here)
      p.through.cpu (f.through.raises none).passes)

  abbrev earlier : (none : after.state.page.fault ≡ None) → RaisesNeeds before steps now
  earlier none = (p.noted (was none)).0

  raised : after.state.page.fault ≡ None → RaisesNeeds before (steps ++ step ∷ []) after
  raised none =
      let r = earlier none in
      let s = f.through.raises none in
      record {
        here = larger r.here s.here;
        passes = needs_append before.knobs before.cpu before.state now.state after.state steps (step ∷ []) r.here s.here
            r.passes (step_needs none);
        needs = s.needs ∙ ap (λ n. larger n s.here) r.needs ∙ larger_of_three before.needs r.here s.here;
        all = (let n = length-append steps (step ∷ []) in let a = r.all in let b = s.all in omega (arith, n, a, b));
      }

  went : GoesThrough before (steps ++ step ∷ []) after
  went = record {
    cpu = f.through.cpu ∙ p.through.cpu;
    knobs = f.through.knobs ∙ p.through.knobs;
    replay = IsReplay-append before.knobs before.cpu before.state steps (step ∷ []) now.state after.state
        p.through.replay
        (subst (λ k. IsReplay k before.cpu now.state (step ∷ []) after.state) p.through.knobs
        (subst (λ n. IsReplay now.knobs n now.state (step ∷ []) after.state) p.through.cpu f.through.replay));
    at_most = (let n = length-append steps (step ∷ []) in let a = p.through.at_most in let b = f.through.at_most in
        omega (arith, n, a, b));
    raises = raised;
  }

  module _ (none : after.state.page.fault ≡ None) (which : Setting) where
    needs_now : now.needs ≡ larger before.needs (earlier none).here
    needs_now = (earlier none).needs

    needs_after : after.needs ≡ larger (larger before.needs (earlier none).here) (f.through.raises none).here
    needs_after = (f.through.raises none).needs ∙ ap (λ n. larger n (f.through.raises none).here) needs_now

    rose : value_at now.needs which < value_at after.needs which
        → RoseBy before.knobs before.cpu before.state (steps ++ step ∷ []) after.state before.needs
        (larger (earlier none).here (f.through.raises none).here) which step now.state.since after.state.part
    rose k = rises_by_next before.knobs before.cpu before.state now.state after.state steps step before.needs
        (earlier none).here (f.through.raises none).here which (earlier none).passes (step_needs none)
        (subst (λ n. value_at (larger before.needs (earlier none).here) which < value_at n which) needs_after
        (subst (λ n. value_at n which < value_at after.needs which) needs_now k))

    kept : value_at after.needs which ≤ value_at now.needs which → (o : Option Rise)
        → IsNoted before steps now (earlier none).here which o
        → IsNoted before (steps ++ step ∷ []) after (larger (earlier none).here (f.through.raises none).here) which o
    kept k o noted = go o noted
      where
        stays : (value_at (earlier none).here which ≤ value_at before.needs which
            → value_at (larger (earlier none).here (f.through.raises none).here) which ≤ value_at before.needs which)
            × ((at : Step) (since : Option ℕ) (left : Part)
            → RoseBy before.knobs before.cpu before.state steps now.state before.needs (earlier none).here which at
            since
            left
            → RoseBy before.knobs before.cpu before.state (steps ++ step ∷ []) after.state before.needs
            (larger (earlier none).here (f.through.raises none).here) which at since left)
        stays = stays_by_next before.knobs before.cpu before.state now.state after.state steps step before.needs
            (earlier none).here (f.through.raises none).here which (step_needs none)
            (subst (λ n. value_at n which ≤ value_at (larger before.needs (earlier none).here) which) needs_after
            (subst (λ n. value_at after.needs which ≤ value_at n which) needs_now k))

        go : (o : Option Rise) → IsNoted before steps now (earlier none).here which o
            → IsNoted before (steps ++ step ∷ []) after (larger (earlier none).here (f.through.raises none).here)
            which o
        go None h = stays.0 h
        go (Some rise) h = (h.0, h.1, stays.1 rise.step rise.since h.0 h.2)

    by_choice : (b : Bool) → nat_lt (value_at now.needs which) (value_at after.needs which) ≡ b
        → IsNoted before (steps ++ step ∷ []) after (larger (earlier none).here (f.through.raises none).here) which
        (if b then Some f.rise else rise_at rises which)
    by_choice true e = (
      after.state.part,
      f.over,
      subst (λ s. RoseBy before.knobs before.cpu before.state (steps ++ step ∷ []) after.state before.needs
          (larger (earlier none).here (f.through.raises none).here) which s f.rise.since after.state.part)
          (sym f.of_step)
          (subst (λ o. RoseBy before.knobs before.cpu before.state (steps ++ step ∷ []) after.state before.needs
          (larger (earlier none).here (f.through.raises none).here) which step o after.state.part) (sym f.since)
          (rose (ltb-true (value_at now.needs which) (value_at after.needs which) e))),
    )
    by_choice false e = kept (not_below (value_at now.needs which) (value_at after.needs which) e) (rise_at rises which)
        ((p.noted (was none)).1 which)

    noted : IsNoted before (steps ++ step ∷ []) after (raised none).here which (rise_at new which)
    unfolding raised
    noted = subst (IsNoted before (steps ++ step ∷ []) after
        (larger (earlier none).here (f.through.raises none).here) which) (sym (f.noted which))
        (by_choice (nat_lt (value_at now.needs which) (value_at after.needs which)) refl)

  pub pursues_more : Pursues before (steps ++ step ∷ []) after new
  pursues_more = record { through = went; noted = λ none. (raised none, noted none) }
