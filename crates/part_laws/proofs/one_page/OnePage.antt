-- A stream has at most one page by its first steps.
use Rattle.std.proofs.Common.{◌≡◌, ℕ, nat_le, cond, Option, Some, None, inl, inr, List, [], ◌∷◌, length, take, sym, ap}
use Rattle.std.proofs.Common.{◌∙◌, subst}
use Rattle.cfs_model.specs.Knobs.{KnobsView}
use Rattle.replay_model.specs.AfterDeed.{after_deed}
use Rattle.replay_model.specs.Tests.{FirstHolds, early_tests, late_tests}
use Rattle.replay_model.specs.Cut.{StreamView}
use Rattle.replay_model.specs.Noted.{noted}
use Rattle.replay_model.specs.Page.{ReplayStateView, IsSince, PassesStep, FailsTest, FailsStep, deadline_of, with_fault}
use Rattle.replay_model.specs.Page.{IsReplayStep, IsReplay, IsStartOf, end_page}
use Rattle.replay_model.specs.PartWords.{OneRunsIn}
use Rattle.part_laws.specs.TouchedParts.{PartStep}
use Rattle.part_laws.specs.Pages.{OnePage}
use Rattle.replay_model.proofs.Clear.{clear_of}
use Rattle.part_laws.proofs.one_page.OneLift.{same_found, same_since, none_first, step_no_fault}
use Rattle.part_laws.proofs.one_page.OnePid.{one_first, early_one, late_one}
use Rattle.part_laws.proofs.one_page.OneRunner.{step_one_runs}
use Rattle.cfs_model.specs.declared.kind.Kind.{Kind}
use Rattle.replay_model.specs.declared.page.StepFault.{StepFault}
use Rattle.replay_model.specs.declared.step.Step.{Step}

same_progress : (a b : ReplayStateView) → a.part ≡ b.part → a.since ≡ b.since → a.page ≡ b.page → a ≡ b
same_progress a b e f g =
    ap (λ x. record { part = x; since = a.since; page = a.page }) e
    ∙ ap (λ x. record { part = b.part; since = x; page = a.page }) f
    ∙ ap (λ x. record { part = b.part; since = b.since; page = x }) g

-- the part's step of a step that passes
mine : (knobs : KnobsView) (cpu : ℕ) (s : ReplayStateView) (step : Step) (a : ReplayStateView)
    → PassesStep knobs cpu s step a
    → PartStep knobs cpu s.part step a.part
mine knobs cpu s step a p = record { found = p.found; passes = p.passes; result = p.part }

pass_one : (knobs : KnobsView) (cpu : ℕ) (s : ReplayStateView) (step : Step) (a b : ReplayStateView)
    → PassesStep knobs cpu s step a
    → PassesStep knobs cpu s step b → a ≡ b
pass_one knobs cpu s step a b p q =
    let found : p.found ≡ q.found = same_found step s.part p.found q.found p.passes.is_found q.passes.is_found in
    let part : a.part ≡ b.part = p.part ∙ ap (λ x. after_deed x step.deed step.claim) found ∙ sym q.part in
    same_progress a b part
    (same_since s.since step.time b.part a.since b.since
    (subst (λ x. IsSince s.since step.time x a.since) part p.since) q.since)
    (p.page ∙ ap (λ x. noted s.page s.part x step) found ∙ sym q.page)

fail_test_one : (knobs : KnobsView) (cpu : ℕ) (s : ReplayStateView) (step : Step) → OneRunsIn s.part
    → (kind other : Kind) (p q : ℕ) → FailsTest knobs cpu s step kind p → FailsTest knobs cpu s step other q
    → (kind ≡ other) × (p ≡ q)
fail_test_one knobs cpu s step one kind other p q (inl h) (inl k) = one_first (early_tests knobs s.since s.part step)
    (early_one knobs s.since s.part step one) kind other p q h k
fail_test_one knobs cpu s step one kind other p q (inl h) (inr k) = absurd
    (none_first (early_tests knobs s.since s.part step) kind p k.1 h)
fail_test_one knobs cpu s step one kind other p q (inr h) (inl k) = absurd
    (none_first (early_tests knobs s.since s.part step) other q h.1 k)
fail_test_one knobs cpu s step one kind other p q (inr h) (inr k) =
    one_first (late_tests knobs cpu k.0 step) (late_one knobs cpu k.0 step) kind other p q
    (subst (λ x. FirstHolds (late_tests knobs cpu x step) kind p) (same_found step s.part h.0 k.0 h.2 k.2) h.3) k.3

fail_one : (knobs : KnobsView) (cpu : ℕ) (s : ReplayStateView) (step : Step) → OneRunsIn s.part
    → (a b : ReplayStateView)
    → FailsStep knobs cpu s step a → FailsStep knobs cpu s step b → a ≡ b
fail_one knobs cpu s step one a b p q =
    let e = fail_test_one knobs cpu s step one p.kind q.kind p.pid q.pid p.fails q.fails in
    let fault : Kind → ℕ → StepFault = λ kind pid. record
    { line = step.line; kind = kind; pid = pid; deadline = deadline_of kind knobs.slack s.since } in
    p.result ∙ ap (λ kind. with_fault s (fault kind p.pid)) e.0 ∙ ap (λ pid. with_fault s (fault q.kind pid)) e.1
    ∙ sym q.result

step_one : (knobs : KnobsView) (cpu : ℕ) (s : ReplayStateView) (step : Step) → OneRunsIn s.part
    → (o : Option StepFault) (a b : ReplayStateView) → IsReplayStep knobs cpu o s step a
    → IsReplayStep knobs cpu o s step b
    → a ≡ b
step_one knobs cpu s step one (Some fault) a b p q = p ∙ sym q
step_one knobs cpu s step one None a b (inl p) (inl q) = pass_one knobs cpu s step a b p q
step_one knobs cpu s step one None a b (inl p) (inr q) = absurd
    (step_no_fault knobs cpu s step a.part b (mine knobs cpu s step a p) p.in_time q)
step_one knobs cpu s step one None a b (inr p) (inl q) = absurd
    (step_no_fault knobs cpu s step b.part a (mine knobs cpu s step b q) q.in_time p)
step_one knobs cpu s step one None a b (inr p) (inr q) = fail_one knobs cpu s step one a b p q

step_keeps : (knobs : KnobsView) (cpu : ℕ) (s : ReplayStateView) (step : Step) → OneRunsIn s.part
    → (o : Option StepFault) (a : ReplayStateView) → IsReplayStep knobs cpu o s step a → OneRunsIn a.part
step_keeps knobs cpu s step one (Some fault) a p = subst (λ x. OneRunsIn x.part) (sym p) one
step_keeps knobs cpu s step one None a (inl p) =
    subst OneRunsIn (sym p.part)
    (step_one_runs knobs cpu s.part p.found step one p.passes.is_found
    (clear_of knobs cpu p.found step p.passes.none))
step_keeps knobs cpu s step one None a (inr p) = subst (λ x. OneRunsIn x.part) (sym p.result) one

pub replay_one : (knobs : KnobsView) (cpu : ℕ) (s : ReplayStateView) (steps : List Step) (a b : ReplayStateView)
    → OneRunsIn s.part
    → IsReplay knobs cpu s steps a → IsReplay knobs cpu s steps b → a ≡ b
replay_one knobs cpu s [] a b one p q = p ∙ sym q
replay_one knobs cpu s (step ∷ steps) a b one p q =
    let same : q.0 ≡ p.0 = step_one knobs cpu s step one s.page.fault q.0 p.0 q.1 p.1 in
    replay_one knobs cpu p.0 steps a b (step_keeps knobs cpu s step one s.page.fault p.0 p.1) p.2
    (subst (λ x. IsReplay knobs cpu x steps b) same q.2)

start_one : (stream : StreamView) (a b : ReplayStateView) → IsStartOf stream a → IsStartOf stream b → a ≡ b
start_one stream a b p q =
    let part : a.part ≡ b.part = p.part ∙ sym q.part in
    same_progress a b part
    (same_since None stream.start b.part a.since b.since
    (subst (λ x. IsSince None stream.start x a.since) part p.since) q.since) (p.page ∙ sym q.page)

pub one_page : OnePage
one_page stream knobs made page other one p q =
    let same : q.start ≡ p.start = start_one stream q.start p.start q.is_start p.is_start in
    let end : p.end ≡ q.end = replay_one knobs stream.cpu p.start (take made stream.steps) p.end q.end
    (subst OneRunsIn (sym p.is_start.part) one) p.replay
    (subst (λ x. IsReplay knobs stream.cpu x (take made stream.steps) q.end) same q.replay) in
    p.result
    ∙ ap (λ (x : ReplayStateView). cond (nat_le (length stream.steps) made)
    (end_page knobs.slack stream x.since x.page.fault x.page) x.page) end
    ∙ sym q.result
