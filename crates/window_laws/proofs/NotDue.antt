-- A fault that a replay finds from some time and line on isn't due at any event up to them: it is of a later line, or
-- its deadline isn't before the time.
use Rattle.std.proofs.Common.{◌≡◌, ℕ, ◌+◌, ◌<◌, ◌≤◌, nat_lt, nat_le, Bool, true, false, cond, Option, Some, None, inl}
use Rattle.std.proofs.Common.{inr}
use Rattle.std.proofs.Common.{List, [], ◌∷◌, refl, sym, ap, ◌∙◌, subst, arith}
use Rattle.std.specs.List.{AllByRecursion}
use Rattle.cfs_model.specs.Knobs.{KnobsView}
use Rattle.cfs_model.specs.Claimed.{Claimed}
use Rattle.replay_model.specs.Cut.{StreamView}
use Rattle.replay_model.specs.Page.{ReplayStateView, PassesStep, FailsStep, IsReplayStep, IsReplay, end_page}
use Rattle.replay_laws.specs.Telling.{IdlesBefore, FailsHere, ComesAfter}
use Rattle.replay_model.proofs.Options.{no_some, some_no, same_some}
use Rattle.replay_laws.proofs.composing.CutReplays.{late_fault}
use Rattle.replay_laws.proofs.following.Follow.{since_begun}
use Rattle.replay_laws.proofs.telling.Deadlines.{with_deadline}
use Rattle.replay_laws.proofs.telling.FrontReplay.{step_fault_of}
use Rattle.window_laws.specs.InWindow.{window_page}
use Rattle.replay_model.specs.declared.page.StepFault.{StepFault}
use Rattle.replay_model.specs.declared.step.Step.{Step}

-- a fault of a test is of a line past this one, and the deadline of another isn't before this time
pub record DueFrom (time line : ℕ) (fault : StepFault) : Type 0 where
  pub at_line : fault.deadline ≡ None → line < fault.line
  pub at_time : (deadline : ℕ) → fault.deadline ≡ Some deadline → time ≤ deadline

-- a replay's fault, if it has one, is so, and its processor isn't late at this time
pub record LateFrom (slack time line : ℕ) (s : ReplayStateView) : Type 0 where
  pub fault : (fault : StepFault) → s.page.fault ≡ Some fault → DueFrom time line fault
  pub since : (x : ℕ) → s.since ≡ Some x → time ≤ x + slack

step_late : (knobs : KnobsView) (cpu time line : ℕ) (s : ReplayStateView) (step : Step) (next : ReplayStateView)
    → LateFrom knobs.slack time line s → line < step.line → time ≤ step.time
    → IsReplayStep knobs cpu s.page.fault s step next → LateFrom knobs.slack time line next
step_late knobs cpu time line s step next h l t r = go s.page.fault r
  where
    passed : PassesStep knobs cpu s step next → LateFrom knobs.slack time line next
    passed p = record {
      fault = λ fault g. no_some fault (sym (ap (λ y. y.fault) p.page) ∙ g);
      since = λ x g. elim (since_begun s.since step.time next.part next.since p.since x g) [
        | inl k ↦ h.since x k
        | inr k ↦ omega arith
      ];
    }

    failed : FailsStep knobs cpu s step next → LateFrom knobs.slack time line next
    failed f =
        let here = step_fault_of knobs cpu s step next f in
        let due : DueFrom time line here = record {
          at_line = λ none. l;
          at_time = λ d e. (let u = with_deadline knobs cpu s step f.kind f.pid d f.fails e in
              let a = h.since u.from u.idles in let b = u.deadline_is in omega (arith, a, b));
        } in
        record {
          fault = λ fault g. subst (DueFrom time line)
              (same_some next.page.fault here fault (ap (λ y. y.page.fault) f.result) g) due;
          since = λ x g. h.since x (ap (λ y. y.since) (sym f.result) ∙ g);
        }

    go : (o : Option StepFault) → IsReplayStep knobs cpu o s step next → LateFrom knobs.slack time line next
    go (Some fault) same = subst (LateFrom knobs.slack time line) (sym same) h
    go None (inl p) = passed p
    go None (inr f) = failed f

pub replay_late : (knobs : KnobsView) (cpu time line : ℕ) (s : ReplayStateView) (steps : List Step)
    (end : ReplayStateView) → LateFrom knobs.slack time line s
    → AllByRecursion (λ (step : Step). (line < step.line) × (time ≤ step.time)) steps
    → IsReplay knobs cpu s steps end → LateFrom knobs.slack time line end
replay_late knobs cpu time line s [] end h k r = subst (LateFrom knobs.slack time line) (sym r) h
replay_late knobs cpu time line s (step ∷ steps) end h k r =
    replay_late knobs cpu time line r.0 steps end (step_late knobs cpu time line s step r.0 h k.0.0 k.0.1 r.1) k.1 r.2

-- the end test adds such a fault alone
pub page_due : (slack : ℕ) (stream : StreamView) (count made time line : ℕ) (end : ReplayStateView)
    → LateFrom slack time line end → (fault : StepFault)
    → (window_page slack stream count made end).fault ≡ Some fault → DueFrom time line fault
page_due slack stream count made time line end h fault e = go (nat_le count made) e
  where
    at : (x : ℕ) → end.since ≡ Some x → (b : Bool)
        → (cond b (record (end.page) { fault = Some (late_fault slack stream x) }) end.page).fault ≡ Some fault
        → DueFrom time line fault
    at x s false e = h.fault fault e
    at x s true e = subst (DueFrom time line)
        (same_some (Some (late_fault slack stream x)) (late_fault slack stream x) fault refl e)
        (record {
          at_line = λ n. some_no (x + slack) n;
          at_time = λ d n. (let a = h.since x s in
              let b : x + slack ≡ d = same_some (Some (x + slack)) (x + slack) d refl n in omega (arith, a, b));
        })

    test : (since : Option ℕ) → end.since ≡ since → (o : Option StepFault)
        → (end_page slack stream since o end.page).fault ≡ Some fault → DueFrom time line fault
    test None s o e = h.fault fault e
    test (Some x) s (Some f) e = h.fault fault e
    test (Some x) s None e = at x s (nat_lt (x + slack) stream.last_time) e

    go : (b : Bool)
        → (cond b (end_page slack stream end.since end.page.fault end.page) end.page).fault ≡ Some fault
        → DueFrom time line fault
    go true e = test end.since refl end.page.fault e
    go false e = h.fault fault e

-- so it isn't due at events up to there
pub comes_after : (time line cpu : ℕ) (before : List Claimed) (o : Option StepFault)
    → ((fault : StepFault) → o ≡ Some fault → DueFrom time line fault)
    → AllByRecursion (λ (event : Claimed). (event.entry.line ≤ line) × (event.entry.time ≤ time)) before
    → ComesAfter before cpu o
comes_after time line cpu [] o h k = tt
comes_after time line cpu (event ∷ before) o h k =
    ((idles o h, (λ touched. here o h)), comes_after time line cpu before o h k.1)
  where
    idles : (o : Option StepFault) → ((fault : StepFault) → o ≡ Some fault → DueFrom time line fault)
        → ¬ IdlesBefore event o
    idles None h e = e
    idles (Some fault) h e =
        let a : time ≤ e.0 = (h fault refl).at_time e.0 e.1 in
        let b : e.0 < event.entry.time = e.2 in
        let c : event.entry.time ≤ time = k.0.1 in
        absurd (omega arith)

    here : (o : Option StepFault) → ((fault : StepFault) → o ≡ Some fault → DueFrom time line fault)
        → ¬ FailsHere event o
    here None h e = e
    here (Some fault) h e =
        let a : line < fault.line = (h fault refl).at_line e.0 in
        let b : fault.line ≡ event.entry.line = e.1 in
        let c : event.entry.line ≤ line = k.0.0 in
        absurd (omega arith)
