-- The replay of a record in two: up to some events against which its page says nothing, where no step failed, and on
-- from there. Where a step fails, its fault is the page's: it is of the step's line, or has a deadline before its time.
use Rattle.std.proofs.Common.{◌≡◌, ℕ, Bool, true, false, Option, Some, None, ◌⊎◌, inl, inr, List, [], ◌∷◌, ◌++◌, refl}
use Rattle.std.proofs.Common.{sym, ap, ◌∙◌, subst}
use Rattle.cfs_model.specs.Knobs.{KnobsView}
use Rattle.cfs_model.specs.Claimed.{Claimed}
use Rattle.replay_model.specs.Cut.{touches, steps_at}
use Rattle.replay_model.specs.StepAt.{step_at}
use Rattle.replay_model.specs.Page.{ReplayStateView, PassesStep, FailsStep, deadline_of, IsReplayStep, IsReplay}
use Rattle.replay_laws.specs.Telling.{IdlesBefore, FailsHere, ComesAfter}
use Rattle.replay_model.proofs.Replayed.{stays_faulted}
use Rattle.replay_laws.proofs.telling.Deadlines.{with_deadline}
use Rattle.replay_laws.proofs.following.Follow.{touched_steps, untouched_steps}
use Rattle.replay_model.specs.declared.page.StepFault.{StepFault}
use Rattle.replay_model.specs.declared.step.Step.{Step}

-- the fault of a step that fails
abbrev pub step_fault_of : (knobs : KnobsView) (cpu : ℕ) (s : ReplayStateView) (step : Step) (failed : ReplayStateView)
    → FailsStep knobs cpu s step failed → StepFault
step_fault_of knobs cpu s step failed f =
    record { line = step.line; kind = f.kind; pid = f.pid; deadline = deadline_of f.kind knobs.slack s.since }

-- it is the last
pub fails_last : (knobs : KnobsView) (cpu : ℕ) (s : ReplayStateView) (step : Step) (failed : ReplayStateView)
    (steps : List Step) (end : ReplayStateView) (f : FailsStep knobs cpu s step failed)
    → IsReplay knobs cpu failed steps end → end.page.fault ≡ Some (step_fault_of knobs cpu s step failed f)
fails_last knobs cpu s step failed steps end f r =
    let e : failed.page.fault ≡ Some (step_fault_of knobs cpu s step failed f) = ap (λ x. x.page.fault) f.result in
    ap (λ x. x.page.fault) (stays_faulted knobs cpu failed steps end (step_fault_of knobs cpu s step failed f) e r) ∙ e

-- an event's step passes, or fails with the replay's last fault
pub record PassesFirst (knobs : KnobsView) (cpu : ℕ) (s : ReplayStateView) (event : Claimed) (events : List Claimed)
    (end : ReplayStateView) : Type 0 where
  pub next : ReplayStateView
  pub passes : PassesStep knobs cpu s (step_at cpu event) next
  pub replay : IsReplay knobs cpu next (steps_at cpu events) end

pub record FailsFirst (knobs : KnobsView) (cpu : ℕ) (s : ReplayStateView) (event : Claimed)
    (end : ReplayStateView) : Type 0 where
  pub failed : ReplayStateView
  pub fails : FailsStep knobs cpu s (step_at cpu event) failed
  pub last : end.page.fault ≡ Some (step_fault_of knobs cpu s (step_at cpu event) failed fails)

pub first_step : (knobs : KnobsView) (cpu : ℕ) (s : ReplayStateView) (event : Claimed) (events : List Claimed)
    (end : ReplayStateView) → s.page.fault ≡ None → touches cpu event ≡ true
    → IsReplay knobs cpu s (steps_at cpu (event ∷ events)) end
    → PassesFirst knobs cpu s event events end ⊎ FailsFirst knobs cpu s event end
first_step knobs cpu s event events end n t r =
    let h = subst (λ xs. IsReplay knobs cpu s xs end) (touched_steps cpu event events t) r in
    go h.0 (subst (λ o. IsReplayStep knobs cpu o s (step_at cpu event) h.0) n h.1) h.2
  where
    go : (next : ReplayStateView)
        → PassesStep knobs cpu s (step_at cpu event) next ⊎ FailsStep knobs cpu s (step_at cpu event) next
        → IsReplay knobs cpu next (steps_at cpu events) end
        → PassesFirst knobs cpu s event events end ⊎ FailsFirst knobs cpu s event end
    go next (inl p) k = inl (record { next = next; passes = p; replay = k })
    go next (inr p) k = inr (record {
      failed = next;
      fails = p;
      last = fails_last knobs cpu s (step_at cpu event) next (steps_at cpu events) end p k;
    })

-- an event that touches another processor has no step here
pub away : (knobs : KnobsView) (cpu : ℕ) (s : ReplayStateView) (event : Claimed) (events : List Claimed)
    (end : ReplayStateView) → touches cpu event ≡ false
    → IsReplay knobs cpu s (steps_at cpu (event ∷ events)) end → IsReplay knobs cpu s (steps_at cpu events) end
away knobs cpu s event events end t r =
    subst (λ xs. IsReplay knobs cpu s xs end) (untouched_steps cpu event events t) r

-- a page that says nothing against an event has no fault of its step
pub no_fault_here : (knobs : KnobsView) (cpu : ℕ) (s : ReplayStateView) (event : Claimed) (end : ReplayStateView)
    (o : Option StepFault) → ((fault : StepFault) → end.page.fault ≡ Some fault → o ≡ Some fault)
    → (¬ IdlesBefore event o) → (¬ FailsHere event o) → ¬ FailsFirst knobs cpu s event end
no_fault_here knobs cpu s event end o is idles here f = go (deadline_of f.fails.kind knobs.slack s.since) refl
  where
    same : o ≡ Some (step_fault_of knobs cpu s (step_at cpu event) f.failed f.fails)
    same = is (step_fault_of knobs cpu s (step_at cpu event) f.failed f.fails) f.last

    go : (d : Option ℕ) → deadline_of f.fails.kind knobs.slack s.since ≡ d → ⊥
    go None h = here (subst (FailsHere event) (sym same) (h, refl))
    go (Some d) h = idles (subst (IdlesBefore event) (sym same) (
      d,
      h,
      (with_deadline knobs cpu s (step_at cpu event) f.fails.kind f.fails.pid d f.fails.fails h).late,
    ))

-- a replay of some events and more, in two
pub record FrontReplay (knobs : KnobsView) (cpu : ℕ) (s : ReplayStateView) (before rest : List Claimed)
    (end : ReplayStateView) : Type 0 where
  pub mid : ReplayStateView
  pub front : IsReplay knobs cpu s (steps_at cpu before) mid
  pub back : IsReplay knobs cpu mid (steps_at cpu rest) end
  pub no_fault : mid.page.fault ≡ None

pub front_replay : (knobs : KnobsView) (cpu : ℕ) (s : ReplayStateView) (before rest : List Claimed)
    (end : ReplayStateView) (o : Option StepFault) → s.page.fault ≡ None
    → ((fault : StepFault) → end.page.fault ≡ Some fault → o ≡ Some fault)
    → IsReplay knobs cpu s (steps_at cpu (before ++ rest)) end → ComesAfter before cpu o
    → FrontReplay knobs cpu s before rest end
front_replay knobs cpu s [] rest end o n is r c = record { mid = s; front = refl; back = r; no_fault = n }
front_replay knobs cpu s (event ∷ before) rest end o n is r c = go (touches cpu event) refl
    (λ next n r. front_replay knobs cpu next before rest end o n is r c.1)
  where
    go : (b : Bool) → touches cpu event ≡ b
        → ((next : ReplayStateView) → next.page.fault ≡ None
        → IsReplay knobs cpu next (steps_at cpu (before ++ rest)) end → FrontReplay knobs cpu next before rest end)
        → FrontReplay knobs cpu s (event ∷ before) rest end
    go false t later =
        let f = later s n (away knobs cpu s event (before ++ rest) end t r) in
        record {
          mid = f.mid;
          front = subst (λ xs. IsReplay knobs cpu s xs f.mid) (sym (untouched_steps cpu event before t)) f.front;
          back = f.back;
          no_fault = f.no_fault;
        }
    go true t later = elim (first_step knobs cpu s event (before ++ rest) end n t r) [
      | inl p ↦ (let f = later p.next (ap (λ x. x.fault) p.passes.page) p.replay in
          record {
            mid = f.mid;
            front = subst (λ xs. IsReplay knobs cpu s xs f.mid) (sym (touched_steps cpu event before t)) (
              p.next,
              subst (λ x. IsReplayStep knobs cpu x s (step_at cpu event) p.next) (sym n) (inl p.passes),
              f.front,
            );
            back = f.back;
            no_fault = f.no_fault;
          })
      | inr p ↦ absurd (no_fault_here knobs cpu s event end o is c.0.0 (c.0.1 t) p)
    ]
