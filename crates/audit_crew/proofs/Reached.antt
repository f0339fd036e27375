-- How far a replay went tells where its stream's replay has its first fault: past a fault no step changes anything, so
-- the page of the steps made is that of all steps. One that stopped did so at its last step's line.
use Rattle.std.proofs.Common.{◌≡◌, ℕ, zero, suc, ◌<◌, ◌≤◌, nat_le, nat_lt, if◌then◌else◌, Bool, true, false, Option}
use Rattle.std.proofs.Common.{Some, None, IsSome, ◌⊎◌, inl, inr, List, [], ◌∷◌, ◌++◌, length, take, drop, refl, sym, ap}
use Rattle.std.proofs.Common.{◌∙◌, subst, arith, rules, add-one, take-append-drop}
use Rattle.std.specs.Prelude.{slice_get}
use Rattle.std.proofs.lemmas.Bool.{false≢true, leb-true, le-leb, lt-ltb}
use Rattle.std.proofs.lemmas.List.{take_all}
use Rattle.cfs_model.specs.Knobs.{KnobsView}
use Rattle.replay_model.specs.Cut.{StreamView}
use Rattle.replay_model.specs.Noted.{PageView}
use Rattle.replay_model.specs.Page.{ReplayStateView, IsReplayStep, IsReplay, IsPageOf, end_page}
use Rattle.replay_model.specs.declared.page.StepFault.{StepFault}
use Rattle.replay_model.specs.declared.step.Step.{Step}
use Rattle.replay_model.proofs.Replayed.{IsReplay-append, first_passes}
use Rattle.queue_replay.specs.Made.{IsFaultless, reached_at}
use Rattle.queue_replay.specs.declared.tag.Reached.TheVariants.{Stopped, Done}
use Rattle.queue_replay.specs.Replay.{ReplayView}
use Rattle.audit_crew.specs.Tags.{IsReachOf, IsStoppedAt, IsTagOf, IsThrough, tag_of}

-- after a fault a replay goes on by any steps
fault_stays : (knobs : KnobsView) (cpu : ℕ) (s : ReplayStateView) (fault : StepFault) → s.page.fault ≡ Some fault
    → (steps : List Step) → IsReplay knobs cpu s steps s
fault_stays knobs cpu s fault f [] = refl
fault_stays knobs cpu s fault f (step ∷ steps) =
    (s, subst (λ o. IsReplayStep knobs cpu o s step s) (sym f) refl, fault_stays knobs cpu s fault f steps)

-- the end test of a replay that has a fault changes nothing
end_test : (slack : ℕ) (stream : StreamView) (since : Option ℕ) (fault : StepFault) (page : PageView)
    → end_page slack stream since (Some fault) page ≡ page
end_test slack stream None fault page = refl
end_test slack stream (Some time) fault page = refl

whole_page : {X : Type 0} (b : Bool) (x y : X) → b ≡ true → (if b then x else y) ≡ x
whole_page true x y e = refl
whole_page false x y e = absurd (false≢true e)

not_below : (n : ℕ) → nat_lt n n ≡ false
not_below n = search rules

-- a page with a fault is that of all steps
pub faulted_is_whole : (stream : StreamView) (knobs : KnobsView) (made : ℕ) (page : PageView) (fault : StepFault)
    → IsPageOf stream knobs made page → page.fault ≡ Some fault → IsPageOf stream knobs (length stream.steps) page
faulted_is_whole stream knobs made page fault is f = go (nat_le (length stream.steps) made) refl is.result
  where
    all_is : take (length stream.steps) stream.steps ≡ stream.steps
    all_is = take_all (length stream.steps) stream.steps (omega arith)

    ends_there : nat_le (length stream.steps) (length stream.steps) ≡ true
    ends_there = le-leb (length stream.steps) (length stream.steps) (omega arith)

    go : (b : Bool) → nat_le (length stream.steps) made ≡ b
        → page ≡ (if b then end_page knobs.slack stream is.end.since is.end.page.fault is.end.page else is.end.page)
        → IsPageOf stream knobs (length stream.steps) page
    go true ends e =
        record {
          start = is.start;
          is_start = is.is_start;
          end = is.end;
          replay = subst (λ steps. IsReplay knobs stream.cpu is.start steps is.end)
              (take_all made stream.steps (leb-true _ _ ends) ∙ sym all_is) is.replay;
          result = e ∙ sym (whole_page (nat_le (length stream.steps) (length stream.steps)) _ _ ends_there);
        }
    go false ends e =
        let faulted : is.end.page.fault ≡ Some fault = sym (ap (λ (p : PageView). p.fault) e) ∙ f in
        record {
          start = is.start;
          is_start = is.is_start;
          end = is.end;
          replay = subst (λ steps. IsReplay knobs stream.cpu is.start steps is.end)
              (take-append-drop made stream.steps ∙ sym all_is)
              (IsReplay-append knobs stream.cpu is.start (take made stream.steps) (drop made stream.steps) is.end is.end
              is.replay (fault_stays knobs stream.cpu is.end fault faulted (drop made stream.steps)));
          result = e ∙ sym (whole_page (nat_le (length stream.steps) (length stream.steps)) _ _ ends_there
              ∙ ap (λ o. end_page knobs.slack stream is.end.since o is.end.page) faulted
              ∙ end_test knobs.slack stream is.end.since fault is.end.page);
        }

-- the last of some steps that a replay makes without a fault gives the line
last_line : (knobs : KnobsView) (cpu : ℕ) (before : ReplayStateView) (steps : List Step) (step : Step)
    (end : ReplayStateView) → IsReplay knobs cpu before (steps ++ step ∷ []) end → before.page.fault ≡ None
    → end.page.fault ≡ None → end.page.line ≡ step.line
last_line knobs cpu before [] step end r n e =
    let p = first_passes knobs cpu before step r.0 [] end n r.1 r.2 e in
    ap (λ y. y.page.line) r.2 ∙ ap (λ y. y.line) p.0.page
last_line knobs cpu before (first ∷ steps) step end r n e =
    let p = first_passes knobs cpu before first r.0 (steps ++ step ∷ []) end n r.1 r.2 e in
    last_line knobs cpu r.0 steps step end r.2 p.1 e

-- the first steps end with the one at the last of their indices
take_last : (steps : List Step) (index : ℕ) → index < length steps
    → (step : Step) × (slice_get steps index ≡ Some step) × (take (suc index) steps ≡ take index steps ++ step ∷ [])
take_last [] index h = absurd (omega arith)
take_last (step ∷ steps) zero h = (step, refl, refl)
take_last (first ∷ steps) (suc index) h =
    let t = take_last steps index (omega arith) in (t.0, t.1, ap (λ xs. first ∷ xs) t.2)

not_all : (n made : ℕ) → made < n → nat_le n made ≡ false
not_all n made h = search rules

-- a replay that stopped has passed its last step and each before it
stopped : (stream : StreamView) (knobs : KnobsView) (made told : ℕ) (page : PageView)
    → IsPageOf stream knobs made page → page.fault ≡ None → 0 < made → made < length stream.steps → told ≤ page.line
    → IsStoppedAt stream knobs told page.line
stopped stream knobs zero told page is f some left past = absurd (omega arith)
stopped stream knobs (suc index) told page is f some left past =
    let t = take_last stream.steps index (omega arith) in
    let same : page ≡ is.end.page =
    is.result ∙ ap (λ (b : Bool). if b then end_page knobs.slack stream is.end.since is.end.page.fault is.end.page
    else is.end.page) (not_all (length stream.steps) (suc index) left) in
    let replay = subst (λ steps. IsReplay knobs stream.cpu is.start steps is.end) t.2 is.replay in
    record {
      index = index;
      step = t.0;
      is_step = t.1;
      at_line = sym (ap (λ p. p.line) same ∙ last_line knobs stream.cpu is.start (take index stream.steps) t.0 is.end
          replay (ap (λ p. p.fault) is.is_start.page) (ap (λ p. p.fault) (sym same) ∙ f));
      passes = subst (IsFaultless stream knobs) (sym (add-one index)) (page, is, f);
      past = past;
    }

reached : (stream : StreamView) (knobs : KnobsView) (made told : ℕ) (page : PageView) (o : Option StepFault)
    → IsPageOf stream knobs made page → page.fault ≡ o
    → IsSome o ⊎ (made ≡ length stream.steps)
    ⊎ ((0 < made) × (made < length stream.steps) × (o ≡ None) × (told ≤ page.line))
    → IsReachOf stream knobs told (reached_at o page.line made (length stream.steps))
reached stream knobs made told page (Some fault) is f through = record {
  page = page;
  is_page = faulted_is_whole stream knobs made page fault is f;
  fault = fault;
  is_fault = f;
  at_line = refl;
}
reached stream knobs made told page None is f (inl some) = absurd (false≢true some)
reached stream knobs made told page None is f (inr (inl all)) =
    subst (λ (n : ℕ). IsReachOf stream knobs told (reached_at None page.line n (length stream.steps))) (sym all)
    (subst (λ (b : Bool). IsReachOf stream knobs told (if b then Stopped page.line else Done))
    (sym (not_below (length stream.steps)))
    (page, subst (λ (n : ℕ). IsPageOf stream knobs n page) all is, f))
reached stream knobs made told page None is f (inr (inr h)) =
    subst (λ (b : Bool). IsReachOf stream knobs told (if b then Stopped page.line else Done))
    (sym (lt-ltb made (length stream.steps) h.1))
    (stopped stream knobs made told page is f h.0 h.1 h.3)

-- a replay that went so far has a page with a tag that its stream's replay gives
pub tag_through : (replay : ReplayView) (told : ℕ)
    → IsPageOf replay.stream replay.knobs replay.made replay.page
    → IsThrough replay told → IsTagOf replay.stream replay.knobs told (tag_of replay)
tag_through replay told is through =
    (refl, reached replay.stream replay.knobs replay.made told replay.page replay.page.fault is refl (how through))
  where
    how : IsThrough replay told
        → IsSome replay.page.fault ⊎ (replay.made ≡ length replay.stream.steps)
        ⊎ ((0 < replay.made) × (replay.made < length replay.stream.steps) × (replay.page.fault ≡ None)
        × (told ≤ replay.page.line))
    how (inl some) = inl some
    how (inr (inl all)) = inr (inl all)
    how (inr (inr h)) = inr (inr (h.some, h.left, h.no_fault, h.past))
