-- A whole page is that of a replay by all steps of its processor: past a fault no step changes anything, and the end
-- test adds a fault alone.
use Rattle.std.proofs.Common.{◌≡◌, ℕ, ◌+◌, ◌<◌, nat_lt, nat_le, Bool, true, false, cond, Option, Some, None, IsSome, ℤ}
use Rattle.std.proofs.Common.{◌⊎◌, inl, inr, List, [], ◌∷◌, length, take, drop, refl, sym, ap, ◌∙◌, subst, true≢false}
use Rattle.std.proofs.Common.{take-append-drop}
use Rattle.std.proofs.lemmas.Bool.{le-leb, lt-ltb, ltb-true, leb-true}
use Rattle.std.proofs.lemmas.List.{take_all}
use Rattle.cfs_model.specs.Limits.{no_line}
use Rattle.cfs_model.specs.Knobs.{KnobsView}
use Rattle.cfs_model.specs.Claimed.{Claimed}
use Rattle.replay_model.specs.Cut.{StreamView, steps_at, last_time_of, last_line_after, cut}
use Rattle.replay_model.specs.Noted.{PageView}
use Rattle.replay_model.specs.Page.{ReplayStateView, IsReplayStep, IsReplay, IsStartOf, end_page}
use Rattle.replay_laws.specs.Sufficing.{IsWholePage}
use Rattle.replay_model.proofs.Replayed.{IsReplay-append}
use Rattle.replay_model.proofs.Options.{same_some}
use Rattle.replay_laws.proofs.composing.CutReplays.{late_fault, end_left, end_came, end_tallies}
use Rattle.cfs_model.specs.declared.task.Task.{Task}
use Rattle.replay_model.specs.declared.page.StepFault.{StepFault}
use Rattle.replay_model.specs.declared.step.Step.{Step}

-- what the end of a replay says of the page's fault: it is a step's, or the end test's at this time
pub record PageFault (slack time : ℕ) (end : ReplayStateView) (o : Option StepFault) : Type 0 where
  pub of_step : (fault : StepFault) → end.page.fault ≡ Some fault → o ≡ Some fault
  pub of_end : (x : ℕ) → end.page.fault ≡ None → end.since ≡ Some x → x + slack < time
      → (fault : StepFault) × (o ≡ Some fault) × (fault.deadline ≡ Some (x + slack))
  pub from : (fault : StepFault) → o ≡ Some fault
      → (end.page.fault ≡ Some fault)
      ⊎ ((x : ℕ) × (end.page.fault ≡ None) × (end.since ≡ Some x) × (fault.deadline ≡ Some (x + slack))
      × (x + slack < time))

-- the replay by all steps that a page is of
pub record WholeReplay (knobs : KnobsView) (start : ℕ) (floors : List ℤ) (tasks : List Task) (events : List Claimed)
    (cpu : ℕ) (page : PageView) : Type 0 where
  pub first : ReplayStateView
  pub is_start : IsStartOf (cut start floors tasks events cpu) first
  pub end : ReplayStateView
  pub replay : IsReplay knobs cpu first (steps_at cpu events) end
  pub fault : PageFault knobs.slack (last_time_of start events) end page.fault
  -- a fault is of the line of its step, or of the record's last
  pub line : (fault : StepFault) → page.fault ≡ Some fault
      → (end.page.fault ≡ Some fault) ⊎ (fault.line ≡ last_line_after no_line events)
  pub left : page.left ≡ end.page.left
  pub came : page.came ≡ end.page.came
  pub tallies : page.tallies ≡ end.page.tallies

-- after a fault a replay goes on by any steps
stay : (knobs : KnobsView) (cpu : ℕ) (s : ReplayStateView) (fault : StepFault) → s.page.fault ≡ Some fault
    → (steps : List Step) → IsReplay knobs cpu s steps s
stay knobs cpu s fault f [] = refl
stay knobs cpu s fault f (step ∷ steps) =
    (s, subst (λ o. IsReplayStep knobs cpu o s step s) (sym f) refl, stay knobs cpu s fault f steps)

faulted_by_all : (knobs : KnobsView) (cpu : ℕ) (first : ReplayStateView) (made : ℕ) (steps : List Step)
    (end : ReplayStateView) (fault : StepFault) → IsReplay knobs cpu first (take made steps) end
    → end.page.fault ≡ Some fault → IsReplay knobs cpu first steps end
faulted_by_all knobs cpu first made steps end fault r f =
    subst (λ xs. IsReplay knobs cpu first xs end) (take-append-drop made steps)
    (IsReplay-append knobs cpu first (take made steps) (drop made steps) end end r
    (stay knobs cpu end fault f (drop made steps)))

-- the end test of a replay that has a fault changes nothing
end_test_at_fault : (slack : ℕ) (stream : StreamView) (since : Option ℕ) (fault : StepFault) (page : PageView)
    → end_page slack stream since (Some fault) page ≡ page
end_test_at_fault slack stream None fault page = refl
end_test_at_fault slack stream (Some x) fault page = refl

-- the end test of a replay without a fault, where the processor is late
end_is_late : (slack : ℕ) (stream : StreamView) (x : ℕ) (page : PageView) → x + slack < stream.last_time
    → (end_page slack stream (Some x) None page).fault ≡ Some (late_fault slack stream x)
end_is_late slack stream x page h =
    ap (λ b. (cond b (record page { fault = Some (late_fault slack stream x) }) page).fault)
    (lt-ltb (x + slack) stream.last_time h)

-- a fault after the end test is a step's or its own
end_from : (slack : ℕ) (stream : StreamView) (since : Option ℕ) (o : Option StepFault) (page : PageView)
    (fault : StepFault) → page.fault ≡ o → (end_page slack stream since o page).fault ≡ Some fault
    → (page.fault ≡ Some fault)
    ⊎ ((x : ℕ) × (page.fault ≡ None) × (since ≡ Some x) × (fault.deadline ≡ Some (x + slack))
    × (x + slack < stream.last_time))
end_from slack stream None o page fault n h = inl h
end_from slack stream (Some x) (Some other) page fault n h = inl h
end_from slack stream (Some x) None page fault n h = go (nat_lt (x + slack) stream.last_time) refl h
  where
    go : (b : Bool) → nat_lt (x + slack) stream.last_time ≡ b
        → (cond b (record page { fault = Some (late_fault slack stream x) }) page).fault ≡ Some fault
        → (page.fault ≡ Some fault)
        ⊎ ((y : ℕ) × (page.fault ≡ None) × (Some x ≡ Some y) × (fault.deadline ≡ Some (y + slack))
        × (y + slack < stream.last_time))
    go true late e = inr (
      x,
      n,
      refl,
      ap (λ (f : StepFault). f.deadline)
          (sym (same_some (Some (late_fault slack stream x)) (late_fault slack stream x) fault refl e)),
      ltb-true (x + slack) stream.last_time late,
    )
    go false late e = inl e

-- the line of a fault after the end test
end_line : (slack : ℕ) (stream : StreamView) (since : Option ℕ) (o : Option StepFault) (page : PageView)
    (fault : StepFault) → (end_page slack stream since o page).fault ≡ Some fault
    → (page.fault ≡ Some fault) ⊎ (fault.line ≡ stream.last_line)
end_line slack stream None o page fault h = inl h
end_line slack stream (Some x) (Some other) page fault h = inl h
end_line slack stream (Some x) None page fault h = go (nat_lt (x + slack) stream.last_time) h
  where
    go : (b : Bool) → (cond b (record page { fault = Some (late_fault slack stream x) }) page).fault ≡ Some fault
        → (page.fault ≡ Some fault) ⊎ (fault.line ≡ stream.last_line)
    go true e = inr (ap (λ (f : StepFault). f.line)
        (sym (same_some (Some (late_fault slack stream x)) (late_fault slack stream x) fault refl e)))
    go false e = inl e

page_fault : (slack : ℕ) (stream : StreamView) (end : ReplayStateView)
    → PageFault slack stream.last_time end (end_page slack stream end.since end.page.fault end.page).fault
page_fault slack stream end = record {
  of_step = λ fault e. ap (λ o. (end_page slack stream end.since o end.page).fault) e
      ∙ ap (λ p. p.fault) (end_test_at_fault slack stream end.since fault end.page) ∙ e;
  of_end = λ x n e h. (
    late_fault slack stream x,
    ap (λ o. (end_page slack stream end.since o end.page).fault) n
        ∙ ap (λ s. (end_page slack stream s None end.page).fault) e ∙ end_is_late slack stream x end.page h,
    refl,
  );
  from = λ fault e. end_from slack stream end.since end.page.fault end.page fault refl e;
}

some_fault : (o : Option StepFault) → IsSome o → (fault : StepFault) × (o ≡ Some fault)
some_fault None h = absurd (true≢false (sym h))
some_fault (Some fault) h = (fault, refl)

-- a page whose replay the end test follows, whatever its fault
by_end : (knobs : KnobsView) (start : ℕ) (floors : List ℤ) (tasks : List Task) (events : List Claimed) (cpu : ℕ)
    (page : PageView) (first end : ReplayStateView) → IsStartOf (cut start floors tasks events cpu) first
    → IsReplay knobs cpu first (steps_at cpu events) end
    → page ≡ end_page knobs.slack (cut start floors tasks events cpu) end.since end.page.fault end.page
    → WholeReplay knobs start floors tasks events cpu page
by_end knobs start floors tasks events cpu page first end s r e =
    let stream = cut start floors tasks events cpu in
    record {
      first = first;
      is_start = s;
      end = end;
      replay = r;
      fault = subst (λ (p : PageView). PageFault knobs.slack (last_time_of start events) end p.fault) (sym e)
          (page_fault knobs.slack stream end);
      line = λ fault f. end_line knobs.slack stream end.since end.page.fault end.page fault
          (sym (ap (λ p. p.fault) e) ∙ f);
      left = ap (λ p. p.left) e ∙ end_left knobs.slack stream end.since end.page.fault end.page;
      came = ap (λ p. p.came) e ∙ end_came knobs.slack stream end.since end.page.fault end.page;
      tallies = ap (λ p. p.tallies) e ∙ end_tallies knobs.slack stream end.since end.page.fault end.page;
    }

-- a page whose replay has a fault that the end test doesn't follow
by_fault : (knobs : KnobsView) (start : ℕ) (floors : List ℤ) (tasks : List Task) (events : List Claimed) (cpu made : ℕ)
    (page : PageView) (first end : ReplayStateView) (fault : StepFault)
    → IsStartOf (cut start floors tasks events cpu) first
    → IsReplay knobs cpu first (take made (steps_at cpu events)) end → page ≡ end.page → page.fault ≡ Some fault
    → WholeReplay knobs start floors tasks events cpu page
by_fault knobs start floors tasks events cpu made page first end fault s r e f =
    let stream = cut start floors tasks events cpu in
    let has_tally : end.page.fault ≡ Some fault = ap (λ p. p.fault) (sym e) ∙ f in
    by_end knobs start floors tasks events cpu page first end s
    (faulted_by_all knobs cpu first made (steps_at cpu events) end fault r has_tally)
    (e ∙ sym (end_test_at_fault knobs.slack stream end.since fault end.page)
    ∙ ap (λ o. end_page knobs.slack stream end.since o end.page) (sym has_tally))

pub whole_replay : (knobs : KnobsView) (start : ℕ) (floors : List ℤ) (tasks : List Task) (events : List Claimed)
    (cpu : ℕ) (page : PageView) → IsWholePage knobs start floors tasks events cpu page
    → WholeReplay knobs start floors tasks events cpu page
whole_replay knobs start floors tasks events cpu page w =
    let g = w.is_page in
    let steps = steps_at cpu events in
    let stream = cut start floors tasks events cpu in
    let after = end_page knobs.slack stream g.end.since g.end.page.fault g.end.page in
    let go : (b : Bool) → nat_le (length steps) w.made ≡ b → WholeReplay knobs start floors tasks events cpu page =
    λ b. elim b as (λ b. nat_le (length steps) w.made ≡ b → WholeReplay knobs start floors tasks events cpu page) [
      | true ↦ λ e. by_end knobs start floors tasks events cpu page g.start g.end g.is_start
          (subst (λ xs. IsReplay knobs cpu g.start xs g.end) (take_all w.made steps (leb-true _ _ e)) g.replay)
          (g.result ∙ ap (λ b. cond b after g.end.page) e)
      | false ↦ λ e. elim w.whole [
        | inl some ↦ (let f = some_fault page.fault some in
            by_fault knobs start floors tasks events cpu w.made page g.start g.end f.0 g.is_start g.replay
            (g.result ∙ ap (λ b. cond b after g.end.page) e) f.1)
        | inr all ↦ absurd (true≢false (sym (le-leb (length steps) w.made all) ∙ e))
      ]
    ] in
    go (nat_le (length steps) w.made) refl
