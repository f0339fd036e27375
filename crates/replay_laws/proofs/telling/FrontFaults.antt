-- The fault on a page that says nothing against some events isn't of their lines: it is of a step behind them, or of
-- the end test, which is of the record's last line.
use Rattle.std.proofs.Common.{◌≡◌, ℕ, ◌<◌, ◌≤◌, Bool, true, false, Some, None, ℤ, inl, inr, List, [], ◌∷◌, ◌++◌, refl}
use Rattle.std.proofs.Common.{sym, ap, ◌∙◌, subst, arith}
use Rattle.std.proofs.lemmas.Bool.{cases_lt}
use Rattle.cfs_model.specs.Limits.{no_line}
use Rattle.cfs_model.specs.Knobs.{KnobsView}
use Rattle.cfs_model.specs.Claimed.{Claimed}
use Rattle.replay_model.specs.Cut.{touches, steps_at, last_line_after}
use Rattle.replay_model.specs.StepAt.{step_at}
use Rattle.replay_model.specs.Noted.{PageView}
use Rattle.replay_model.specs.Page.{ReplayStateView, IsReplay}
use Rattle.replay_model.specs.Record.{LinesRise, IsRecord}
use Rattle.replay_model.proofs.Options.{no_some, same_some}
use Rattle.replay_laws.proofs.telling.FrontReplay.{FailsFirst, step_fault_of, first_step, away}
use Rattle.replay_laws.proofs.telling.Fronts.{AtFront}
use Rattle.replay_laws.proofs.composing.StepLines.{lines_back, rise_from}
use Rattle.cfs_model.specs.declared.task.Task.{Task}
use Rattle.replay_model.specs.declared.page.StepFault.{StepFault}

-- a fault of a replay's steps is of a line above one below all of theirs
fault_above : (knobs : KnobsView) (cpu : ℕ) (s : ReplayStateView) (events : List Claimed) (end : ReplayStateView)
    (line : ℕ) (fault : StepFault) → s.page.fault ≡ None → LinesRise line events
    → IsReplay knobs cpu s (steps_at cpu events) end → end.page.fault ≡ Some fault → line < fault.line
fault_above knobs cpu s [] end line fault n rise r f =
    no_some fault (sym n ∙ ap (λ y. y.page.fault) (sym r) ∙ f)
fault_above knobs cpu s (event ∷ events) end line fault n rise r f = go (touches cpu event) refl
    (λ next n r. fault_above knobs cpu next events end line fault n
    (rise_from event.entry.line line events rise.1 (let h : line < event.entry.line = rise.0 in omega arith)) r f)
  where
    failed : FailsFirst knobs cpu s event end → line < fault.line
    failed p =
        let here = step_fault_of knobs cpu s (step_at cpu event) p.failed p.fails in
        let same : here ≡ fault = same_some end.page.fault here fault p.last f in
        subst (λ (x : StepFault). line < x.line) same rise.0

    go : (b : Bool) → touches cpu event ≡ b
        → ((next : ReplayStateView) → next.page.fault ≡ None → IsReplay knobs cpu next (steps_at cpu events) end
        → line < fault.line)
        → line < fault.line
    go false t rest = rest s n (away knobs cpu s event events end t r)
    go true t rest = elim (first_step knobs cpu s event events end n t r) [
      | inl p ↦ rest p.next (ap (λ x. x.fault) p.passes.page) p.replay
      | inr p ↦ failed p
    ]

last_above : (line : ℕ) (events : List Claimed) → LinesRise line events → line ≤ last_line_after line events
last_above line [] h = omega arith
last_above line (event ∷ events) h =
    let above : line < event.entry.line = h.0 in
    let last = last_above event.entry.line events h.1 in
    omega (arith, above, last)

last_behind : (line : ℕ) (before rest : List Claimed) (event : Claimed)
    → last_line_after line (before ++ event ∷ rest) ≡ last_line_after event.entry.line rest
last_behind line [] rest event = refl
last_behind line (x ∷ before) rest event = last_behind x.entry.line before rest event

pub not_before : (knobs : KnobsView) (start : ℕ) (floors : List ℤ) (tasks : List Task) (before rest : List Claimed)
    (event : Claimed) (cpus cpu : ℕ) (page : PageView) (fault : StepFault)
    → IsRecord start floors tasks (before ++ event ∷ rest) cpus → cpu < cpus
    → AtFront knobs start floors tasks before (event ∷ rest) cpus cpu page → page.fault ≡ Some fault
    → event.entry.line ≤ fault.line
not_before knobs start floors tasks before rest event cpus cpu page fault r k at f =
    let b = at.back k in
    let lines = (lines_back 0 before (event ∷ rest) r.lines_rise).1 in
    elim (b.line fault f) [
      | inl h ↦ elim (cases_lt fault.line event.entry.line) [
        | inl below ↦ (let above = fault_above knobs cpu at.mid (event ∷ rest) b.end fault.line fault
            at.passes.no_fault (below, lines) b.replay h in absurd (omega (arith, above)))
        | inr from ↦ from
      ]
      | inr h ↦ subst (λ n. event.entry.line ≤ n) (sym (h ∙ last_behind no_line before rest event))
          (last_above event.entry.line rest lines)
    ]
