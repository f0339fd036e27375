-- The replay of a stream by one step more, and the page of the steps made.
use Rattle.std.proofs.Common.{◌≡◌, ℕ, ◌+◌, ◌-◌, ◌<◌, ◌≤◌, min, nat_le, nat_lt, if◌then◌else◌, Bool, true, false, List}
use Rattle.std.proofs.Common.{[], ◌∷◌, ◌++◌, length, take, get_or, Option, Some, None, IsSome, is_some, ◌⊎◌, inl, inr}
use Rattle.std.proofs.Common.{refl, sym, ap, ◌∙◌, subst, true≢false, arith}
use Rattle.std.proofs.lemmas.Bool.{cond-true, cond-false, le-leb, lt-leb}
use Rattle.std.proofs.lemmas.List.{take_all, take_more}
use Rattle.replay_model.specs.Cut.{StreamView}
use Rattle.replay_model.specs.Noted.{PageView}
use Rattle.replay_model.specs.Page.{ReplayStateView, PassesStep, FailsStep, IsReplayStep, IsReplay, IsStartOf, IsPageOf}
use Rattle.replay_model.specs.Page.{end_page}
use Rattle.cfs_model.specs.Least.{larger}
use Rattle.cfs_model.specs.Knobs.{KnobsView}
use Rattle.cfs_model.specs.declared.kind.Kind.TheVariants.{IdleTooLong}
use Rattle.replay_model.specs.Needs.{AllPassNeeding, idle_need, only_slack}
use Rattle.replay_model.specs.declared.page.StepFault.{StepFault}
use Rattle.replay_model.specs.declared.step.Step.{Step}
use Rattle.replay_model.proofs.Replayed.{IsReplay-push}
use Rattle.queue_replay.specs.Counting.{page_draft_view}
use Rattle.queue_replay.specs.ReplayState.{replay_state_view, IsGoing, IsStepped}
use Rattle.queue_replay.specs.Made.{IsUnderWay, IsAt, IsFaultless, IsPartAfter, GoesOn}
use Rattle.queue_replay.specs.declared.replay_state.ReplayState.{ReplayState}
use Rattle.runqueue.specs.Queue.{runqueue_view}
use Rattle.queue_replay.proofs.Needed.{needing_more}

-- a replay by one step more
pub replay_more : (knobs : KnobsView) (cpu : ℕ) (start : ReplayStateView) (steps : List Step) (made : ℕ)
    (between : ReplayStateView) (step : Step) (after : ReplayStateView)
    → made < length steps → step ≡ get_or steps made step → IsReplay knobs cpu start (take made steps) between
    → between.page.fault ≡ None
    → PassesStep knobs cpu between step after ⊎ FailsStep knobs cpu between step after
    → IsReplay knobs cpu start (take (made + 1) steps) after
replay_more knobs cpu start steps made between step after within is r none s =
    let more : IsReplay knobs cpu start (take made steps ++ step ∷ []) after
    = IsReplay-push knobs cpu start (take made steps) between step after r
    (subst (λ f. IsReplayStep knobs cpu f between step after) (sym none) s) in
    let e : take (made + 1) steps ≡ take made steps ++ step ∷ [] = take_more steps made step within
    ∙ ap (λ x. take made steps ++ x ∷ []) (sym is) in
    subst (λ l. IsReplay knobs cpu start l after) (sym e) more

-- a step that fails leaves a fault
pub left_fault : (knobs : KnobsView) (cpu : ℕ) (before : ReplayStateView) (step : Step) (after : ReplayStateView)
    → FailsStep knobs cpu before step after
    → after.page.fault ≡ None → ⊥
left_fault knobs cpu before step after f none = go _ (sym (ap (λ (x : ReplayStateView). x.page.fault) f.result) ∙ none)
  where
    go : (fault : StepFault) → Some fault ≡ None → ⊥
    go fault e = cc

-- the replay by the steps made, before the end test
pub record IsReached (s : StreamView) (knobs : KnobsView) (c : ReplayState) : Type 0 where
  pub start : ReplayStateView
  pub is_start : IsStartOf s start
  pub replay : IsReplay knobs s.cpu start (take c.made s.steps) (replay_state_view c)
  pub needing : c.draft.fault ≡ None → AllPassNeeding knobs s.cpu start (take c.made s.steps) (replay_state_view c)
      c.needs
  pub going : c.draft.fault ≡ None → IsGoing c

pub reached_one_more : (s : StreamView) (knobs : KnobsView) (old new : ReplayState) (step : Step) (cpu : ℕ) → cpu
    ≡ s.cpu
    → IsUnderWay s knobs old
    → old.made < length s.steps → step ≡ get_or s.steps old.made step
    → IsStepped knobs cpu (replay_state_view old) old.needs step new → new.made ≡ old.made + 1
    → IsReached s knobs new
reached_one_more s knobs old new step cpu same u within is stepped made =
    go (subst (λ n. IsStepped knobs n (replay_state_view old) old.needs step new) same stepped)
  where
    more : PassesStep knobs s.cpu (replay_state_view old) step (replay_state_view new)
        ⊎ FailsStep knobs s.cpu (replay_state_view old) step (replay_state_view new)
        → IsReplay knobs s.cpu u.start (take new.made s.steps) (replay_state_view new)
    more h = subst (λ n. IsReplay knobs s.cpu u.start (take n s.steps) (replay_state_view new)) (sym made)
        (replay_more knobs s.cpu u.start s.steps old.made (replay_state_view old) step
        (replay_state_view new) within is u.replay u.going.fault h)

    go : IsStepped knobs s.cpu (replay_state_view old) old.needs step new → IsReached s knobs new
    go (inl p) = record {
      start = u.start;
      is_start = u.is_start;
      replay = more (inl p.0.1.passes);
      needing = λ _. subst (λ n. AllPassNeeding knobs s.cpu u.start (take n s.steps) (replay_state_view new)
          new.needs) (sym made)
          (needing_more knobs s.cpu u.start s.steps old.made (replay_state_view old) old.needs step
          (replay_state_view new) new.needs
          within is u.needing p.0);
      going = λ _. p.1;
    }
    go (inr f) = record {
      start = u.start;
      is_start = u.is_start;
      replay = more (inr f);
      needing = λ none. absurd (left_fault knobs s.cpu (replay_state_view old) step (replay_state_view new) f none);
      going = λ none. absurd (left_fault knobs s.cpu (replay_state_view old) step (replay_state_view new) f none);
    }

-- the part of the steps made
part_reached : (s : StreamView) (knobs : KnobsView) (c : ReplayState) → IsReached s knobs c
    → IsPartAfter s knobs c.made (runqueue_view c.queue) c.since
part_reached s knobs c r = record {
  start = r.start;
  is_start = r.is_start;
  end = replay_state_view c;
  replay = r.replay;
  part_is = refl;
  since_is = refl;
}

-- before the last step the page is that of the steps made
pub at_middle : (s : StreamView) (knobs : KnobsView) (c : ReplayState) → IsReached s knobs c → c.made < length s.steps
    → IsAt s knobs c
at_middle s knobs c r within = record {
  within = omega arith;
  is_part = part_reached s knobs c r;
  is_page = record {
    start = r.start;
    is_start = r.is_start;
    end = replay_state_view c;
    replay = r.replay;
    result = sym (cond-false (nat_le (length s.steps) c.made) _ (page_draft_view c.draft)
        (lt-leb (length s.steps) c.made within));
  };
  has_needs = λ none all. absurd (omega arith);
  under_way = λ none left. record {
    start = r.start;
    is_start = r.is_start;
    replay = r.replay;
    needing = r.needing none;
    going = r.going none;
  };
}

-- an end test that leaves no fault leaves the page
end_faultless : (slack : ℕ) (s : StreamView) (since : Option ℕ) (fault : Option StepFault) (page : PageView)
    → page.fault ≡ fault
    → (end_page slack s since fault page).fault ≡ None → (fault ≡ None) × (end_page slack s since fault page ≡ page)
end_faultless slack s None (Some f) page has none = let e : Some f ≡ None = sym has ∙ none in absurd cc
end_faultless slack s (Some since) (Some f) page has none = let e : Some f ≡ None = sym has ∙ none in absurd cc
end_faultless slack s None None page has none = (refl, refl)
end_faultless slack s (Some since) None page has none = (refl, go (nat_lt (since + slack) s.last_time) none)
  where
    failed : PageView
    failed = record page {
      fault = Some (record { line = s.last_line; kind = IdleTooLong; pid = 0; deadline = Some (since + slack) });
    }

    go : (late : Bool) → (if late then failed else page).fault ≡ None → (if late then failed else page) ≡ page
    go true e = absurd cc
    go false e = refl

-- after the last step the end test is made
pub at_end : (s : StreamView) (knobs : KnobsView) (c after : ReplayState) → IsReached s knobs c → c.made
    ≡ length s.steps
    → after.made ≡ c.made
    → runqueue_view after.queue ≡ runqueue_view c.queue → after.since ≡ c.since
    → page_draft_view after.draft ≡ end_page knobs.slack s c.since c.draft.fault (page_draft_view c.draft)
    → (c.draft.fault ≡ None → after.needs ≡ larger c.needs
    (only_slack (idle_need c.since s.last_time)))
    → IsAt s knobs after
at_end s knobs c after r last made part since noted raised = record {
  within = omega arith;
  is_part = subst (λ n. IsPartAfter s knobs n (runqueue_view after.queue) after.since) (sym made)
      (record {
        start = r.start;
        is_start = r.is_start;
        end = replay_state_view c;
        replay = r.replay;
        part_is =
            part;
        since_is = since;
      });
  is_page = subst (λ n. IsPageOf s knobs n (page_draft_view after.draft)) (sym made) (record {
    start = r.start;
    is_start = r.is_start;
    end = replay_state_view c;
    replay = r.replay;
    result = noted
        ∙ sym (cond-true (nat_le (length s.steps) c.made)
        (end_page knobs.slack s c.since c.draft.fault (page_draft_view c.draft)) (page_draft_view c.draft)
        (le-leb (length s.steps) c.made (omega arith)));
  });
  has_needs = λ none all.
      let u = end_faultless knobs.slack s c.since c.draft.fault (page_draft_view c.draft) refl
      (sym (ap (λ p. p.fault) noted) ∙ none) in
      record {
        start = r.start;
        is_start = r.is_start;
        end = replay_state_view c;
        of_steps = c.needs;
        all_pass = subst (λ l. AllPassNeeding knobs s.cpu r.start l (replay_state_view c) c.needs)
            (take_all c.made s.steps (omega arith)) (r.needing u.0);
        page_is = noted ∙ u.1;
        needs_are = raised u.0;
      };
  under_way = λ none left. absurd (omega arith);
}

-- a state before the first step
pub reached_start : (s : StreamView) (knobs : KnobsView) (c : ReplayState) → c.made ≡ 0
    → IsStartOf s (replay_state_view c) → IsGoing c → c.needs ≡ only_slack 0
    → IsReached s knobs c
reached_start s knobs c e start going none = record {
  start = replay_state_view c;
  is_start = start;
  replay = subst (λ n. IsReplay knobs s.cpu (replay_state_view c) (take n s.steps) (replay_state_view c)) (sym e) refl;
  needing = λ _. subst (λ n. AllPassNeeding knobs s.cpu (replay_state_view c) (take n s.steps) (replay_state_view c)
      c.needs) (sym e) (refl, none);
  going = λ _. going;
}

-- a run of some steps, with so many left
pub record IsRunning (s : StreamView) (knobs : KnobsView) (from : ℕ) (before : PageView) (steps left : ℕ)
    (c : ReplayState) : Type 0 where
  pub at : IsAt s knobs c
  pub counted : c.made + left ≡ from + steps
  pub from_there : from ≤ c.made
  pub faulted : IsSome before.fault → c.made ≡ from
  pub same : c.made ≡ from → page_draft_view c.draft ≡ before
  pub first : from < c.made → IsFaultless s knobs (c.made - 1)

pub running_more : (s : StreamView) (knobs : KnobsView) (from : ℕ) (before : PageView) (steps left : ℕ)
    (c new : ReplayState)
    → IsRunning s knobs from before steps left c → 0 < left → c.draft.fault ≡ None → IsAt s knobs new
    → new.made ≡ c.made + 1
    → IsRunning s knobs from before steps (left - 1) new
running_more s knobs from before steps left c new r some none at made = record {
  at = at;
  counted = let h = r.counted in omega arith;
  from_there = let h = r.from_there in omega arith;
  faulted = λ f. let e = r.same (r.faulted f) in
      absurd (true≢false (sym f ∙ ap (λ p. is_some p.fault) (sym e) ∙ ap is_some none));
  same = λ e. let h = r.from_there in absurd (omega arith);
  first = λ _. subst (IsFaultless s knobs) (omega arith) (page_draft_view c.draft, r.at.is_page, none);
}

min_left : (a b made : ℕ) → made ≡ a → made ≤ b → made ≡ min a b
min_left a b made e h = omega arith

min_right : (a b made : ℕ) → made ≡ b → made ≤ a → made ≡ min a b
min_right a b made e h = omega arith

pub goes_on : (s : StreamView) (knobs : KnobsView) (from : ℕ) (before : PageView) (steps left : ℕ) (c : ReplayState)
    → IsRunning s knobs from before steps left c → (left ≡ 0) ⊎ (IsSome c.draft.fault ⊎ (length s.steps ≤ c.made))
    → GoesOn s knobs from before steps c.made (page_draft_view c.draft)
goes_on s knobs from before steps left c r over = record {
  faulted = λ f. (r.faulted f, r.same (r.faulted f));
  same = r.same;
  from_there = r.from_there;
  at_most = (let h = r.counted in let w = r.at.within in omega arith);
  all = λ none. all none over;
  first = r.first;
}
  where
    all : c.draft.fault ≡ None → (left ≡ 0) ⊎ (IsSome c.draft.fault ⊎ (length s.steps ≤ c.made))
        → c.made ≡ min (from + steps) (length s.steps)
    all none (inl e) = min_left (from + steps) (length s.steps) c.made (let h = r.counted in omega arith) r.at.within
    all none (inr (inl f)) = absurd (true≢false (sym f ∙ ap is_some none))
    all none (inr (inr h)) = min_right (from + steps) (length s.steps) c.made (let w = r.at.within in omega arith)
        (let k = r.counted in omega arith)
