-- What a page's lists hold already changes no step that follows: no test looks at them, and a step adds to their ends.
use Rattle.std.proofs.Common.{◌≡◌, ℕ, Option, Some, None, inl, inr, List, [], ◌∷◌, ◌++◌, append_assoc, sym, ap, ◌∙◌}
use Rattle.std.proofs.Common.{subst}
use Rattle.std.proofs.lemmas.List.{append-nil}
use Rattle.cfs_model.specs.Knobs.{KnobsView}
use Rattle.replay_model.specs.Part.{Part}
use Rattle.replay_model.specs.Noted.{PageView, births_of, deaths_of, left_by, came_by, noted}
use Rattle.replay_model.specs.Page.{ReplayStateView, PassesStep, FailsStep, IsReplayStep, IsReplay}
use Rattle.window_laws.specs.Kept.{kept_of, page_behind, state_behind}
use Rattle.window_laws.specs.AnyLists.{ReplayBehind, ReplayFromKept}
use Rattle.replay_model.specs.declared.page.LifeEvent.{LifeEvent}
use Rattle.replay_model.specs.declared.page.StepFault.{StepFault}
use Rattle.replay_model.specs.declared.page.Ticket.{Ticket}
use Rattle.replay_model.specs.declared.step.Step.{Step}

-- a page with these four lists
abbrev with_lists : PageView → List Ticket → List Ticket → List LifeEvent → List LifeEvent → PageView
with_lists page left came births deaths =
    record page { left = left; came = came; births = births; deaths = deaths }

same_lists : (page : PageView) (l m c d : List Ticket) (b e x y : List LifeEvent) → l ≡ m → c ≡ d → b ≡ e → x ≡ y
    → with_lists page l c b x ≡ with_lists page m d e y
same_lists page l m c d b e x y h i j k =
    ap (λ z. with_lists page z c b x) h ∙ ap (λ z. with_lists page m z b x) i ∙ ap (λ z. with_lists page m d z x) j
    ∙ ap (λ z. with_lists page m d e z) k

-- what a step notes
pub noted_behind : (earlier page : PageView) (part found : Part) (step : Step)
    → page_behind earlier (noted page part found step) ≡ noted (page_behind earlier page) part found step
noted_behind earlier page part found step =
    same_lists (noted page part found step)
    (earlier.left ++ (page.left ++ left_by found step step.deed))
    ((earlier.left ++ page.left) ++ left_by found step step.deed)
    (earlier.came ++ (page.came ++ came_by found step step.deed))
    ((earlier.came ++ page.came) ++ came_by found step step.deed)
    (earlier.births ++ (page.births ++ births_of step.line step.deed))
    ((earlier.births ++ page.births) ++ births_of step.line step.deed)
    (earlier.deaths ++ (page.deaths ++ deaths_of step.line step.deed))
    ((earlier.deaths ++ page.deaths) ++ deaths_of step.line step.deed)
    (sym (append_assoc earlier.left page.left (left_by found step step.deed)))
    (sym (append_assoc earlier.came page.came (came_by found step step.deed)))
    (sym (append_assoc earlier.births page.births (births_of step.line step.deed)))
    (sym (append_assoc earlier.deaths page.deaths (deaths_of step.line step.deed)))

passes_behind : (knobs : KnobsView) (cpu : ℕ) (earlier : PageView) (before : ReplayStateView) (step : Step)
    (after : ReplayStateView) → PassesStep knobs cpu before step after
    → PassesStep knobs cpu (state_behind earlier before) step (state_behind earlier after)
passes_behind knobs cpu earlier before step after p = record {
  in_time = p.in_time;
  found = p.found;
  passes = p.passes;
  part = p.part;
  since = p.since;
  page = ap (page_behind earlier) p.page ∙ noted_behind earlier before.page before.part p.found step;
}

fails_behind : (knobs : KnobsView) (cpu : ℕ) (earlier : PageView) (before : ReplayStateView) (step : Step)
    (after : ReplayStateView) → FailsStep knobs cpu before step after
    → FailsStep knobs cpu (state_behind earlier before) step (state_behind earlier after)
fails_behind knobs cpu earlier before step after f = record {
  kind = f.kind;
  pid = f.pid;
  fails = f.fails;
  result = ap (state_behind earlier) f.result;
}

step_behind : (knobs : KnobsView) (cpu : ℕ) (earlier : PageView) (o : Option StepFault) (before : ReplayStateView)
    (step : Step) (after : ReplayStateView) → IsReplayStep knobs cpu o before step after
    → IsReplayStep knobs cpu o (state_behind earlier before) step (state_behind earlier after)
step_behind knobs cpu earlier (Some fault) before step after h = ap (state_behind earlier) h
step_behind knobs cpu earlier None before step after (inl p) = inl (passes_behind knobs cpu earlier before step after p)
step_behind knobs cpu earlier None before step after (inr f) = inr (fails_behind knobs cpu earlier before step after f)

pub replay_behind : ReplayBehind
replay_behind knobs cpu earlier before [] after r = ap (state_behind earlier) r
replay_behind knobs cpu earlier before (step ∷ steps) after r = (
  state_behind earlier r.0,
  step_behind knobs cpu earlier before.page.fault before step r.0 r.1,
  replay_behind knobs cpu earlier r.0 steps after r.2,
)

-- a state is what is kept of it behind its own lists
pub kept_behind : (last : ReplayStateView) → state_behind last.page (kept_of last) ≡ last
kept_behind last =
    ap (λ (page : PageView). record last { page = page })
    (same_lists last.page (last.page.left ++ []) last.page.left (last.page.came ++ []) last.page.came
    (last.page.births ++ []) last.page.births (last.page.deaths ++ []) last.page.deaths (append-nil last.page.left)
    (append-nil last.page.came) (append-nil last.page.births) (append-nil last.page.deaths))

pub replay_from_kept : ReplayFromKept
replay_from_kept knobs cpu last steps end r =
    subst (λ s. IsReplay knobs cpu s steps (state_behind last.page end)) (kept_behind last)
    (replay_behind knobs cpu last.page (kept_of last) steps end r)
