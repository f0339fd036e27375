-- What a step of one processor needs of each setting, and what the page of all its steps does (this project's profile).
use Rattle.std.specs.Prelude.{◌≡◌, ℕ, zero, suc, ◌-◌, Option, Some, None, ℤ, pos, nat_abs, ◌+ℤ◌, ◌≤ℤ◌, ◌⊎◌, List, []}
use Rattle.std.specs.Prelude.{◌∷◌}
use Rattle.cfs_model.specs.Knobs.{KnobsView, only}
use Rattle.cfs_model.specs.Least.{larger}
use Rattle.replay_model.specs.Part.{Part, Entity}
use Rattle.replay_model.specs.Deeds.{part_after_prev}
use Rattle.replay_model.specs.Cut.{StreamView}
use Rattle.replay_model.specs.Noted.{PageView}
use Rattle.replay_model.specs.Page.{ReplayStateView, IsStartOf, PassesStep}
use Rattle.cfs_model.specs.declared.charge_line.ChargeLine.{ChargeLine}
use Rattle.cfs_model.specs.declared.claim.Claim.{Claim}
use Rattle.cfs_model.specs.declared.setting.Setting.TheVariants.{Slack}
use Rattle.cfs_model.specs.declared.task.Place.TheVariants.{Wait}
use Rattle.replay_model.specs.declared.step.Deed.{Deed}
use Rattle.replay_model.specs.declared.step.Deed.TheVariants.{Switch, Wake, Born}
use Rattle.replay_model.specs.declared.step.Step.{Step}

-- how far a value is above another; 0 where it isn't
abbrev pub IsExcess : ℤ → ℤ → ℕ → Type 0
IsExcess v from excess = ((v ≤ℤ from) × (excess ≡ 0)) ⊎ (v ≡ from +ℤ pos excess)

-- v is the least virtual runtime of those who wait here
pub record IsLeastWaiting (part : Part) (v : ℤ) : Type 0 where
  pub pid : ℕ
  pub task : Entity
  pub stands : part.tasks pid ≡ Some task
  pub waits : task.place ≡ Wait
  pub runtime : task.runtime ≡ v
  pub least : (other : ℕ) (s : Entity) → part.tasks other ≡ Some s → s.place ≡ Wait → v ≤ℤ s.runtime

-- a pick needs a granularity of how far the next task's virtual runtime is above the least of those who wait, a
-- previous task that stays among them; a switch to pid 0 and every other deed need none
abbrev pub IsPickNeed : Part → Deed → ℕ → Type 0
IsPickNeed part (Switch prev prev_nice way (suc n) next_nice) need =
    (s : Entity) × (least : ℤ) × (part.tasks (suc n) ≡ Some s) × IsLeastWaiting (part_after_prev part prev way) least
    × IsExcess s.runtime least need
IsPickNeed part deed need = need ≡ 0

-- a wakeup from rest, which is one with a claim, needs a credit of how far below the floor it places the task
abbrev pub IsWakeNeed : Part → Deed → Option Claim → ℕ → Type 0
IsWakeNeed part (Wake pid nice) (Some claim) need = IsExcess part.floor claim.v need
IsWakeNeed part deed claim need = need ≡ 0

-- a birth needs a debit of how far above the floor it places the task
abbrev pub IsBirthNeed : Part → Deed → Option Claim → ℕ → Type 0
IsBirthNeed part (Born pid nice policy) (Some claim) need = IsExcess claim.v part.floor need
IsBirthNeed part deed claim need = need ≡ 0

-- a processor that has idled beside a waiting task since a time needs a slack of how long that is; one that hasn't,
-- none
abbrev pub idle_need : Option ℕ → ℕ → ℕ
idle_need None time = 0
idle_need (Some since) time = time - since

-- a told charge needs a drift of how far it leaves its task's from none, up or down
abbrev pub IsDriftNeed : Part → Option ChargeLine → ℕ → Type 0
IsDriftNeed part None need = need ≡ 0
IsDriftNeed part (Some charge) need =
    (s : Entity) × (part.tasks charge.pid ≡ Some s) × (need ≡ nat_abs s.drift)

-- what a step needs, where the processor has idled beside a waiting task since a time, or hasn't, and the deed finds
-- this part: of each setting what it is asked for
pub record AreStepNeeds (since : Option ℕ) (found : Part) (step : Step) (needs : KnobsView) : Type 0 where
  pub granularity : IsPickNeed found step.deed needs.granularity
  pub credit : IsWakeNeed found step.deed step.claim needs.credit
  pub debit : IsBirthNeed found step.deed step.claim needs.debit
  pub slack : needs.slack ≡ idle_need since step.time
  pub drift : IsDriftNeed found step.charge needs.drift

-- the replay goes on by a step that passes, and this is what the step needs
pub record PassesNeeding (knobs : KnobsView) (cpu : ℕ) (before : ReplayStateView) (step : Step) (after :
    ReplayStateView)
    (needs : KnobsView) : Type 0 where
  pub passes : PassesStep knobs cpu before step after
  pub needs_are : AreStepNeeds before.since passes.found step needs

-- settings of a slack alone
abbrev pub only_slack : ℕ → KnobsView
only_slack slack = only Slack slack

-- the replay goes on by steps that all pass, and needs has of each setting the greatest that one of them needs
abbrev pub AllPassNeeding : KnobsView → ℕ → ReplayStateView → List Step → ReplayStateView → KnobsView → Type 0
AllPassNeeding knobs cpu before [] after needs = (after ≡ before) × (needs ≡ only_slack 0)
AllPassNeeding knobs cpu before (step ∷ steps) after needs =
    (between : ReplayStateView) × (here later : KnobsView) × PassesNeeding knobs cpu before step between here
    × AllPassNeeding knobs cpu between steps after later × (needs ≡ larger here later)

-- a stream's replay passes by all steps, and this is its page behind the last one, the end test left out; needs has of
-- each setting the greatest that one of the steps needs, and of the slack also what the processor needs which still
-- idles at the record's last time
pub record IsPageNeeding (stream : StreamView) (knobs : KnobsView) (page : PageView) (needs : KnobsView) : Type 0 where
  pub start : ReplayStateView
  pub is_start : IsStartOf stream start
  pub end : ReplayStateView
  pub of_steps : KnobsView
  pub all_pass : AllPassNeeding knobs stream.cpu start stream.steps end of_steps
  pub page_is : page ≡ end.page
  pub needs_are : needs ≡ larger of_steps (only_slack (idle_need end.since stream.last_time))

-- of each setting the greatest among those of the processors below a number
abbrev pub largest : (ℕ → KnobsView) → ℕ → KnobsView
largest needs zero = only_slack 0
largest needs (suc cpu) = larger (largest needs cpu) (needs cpu)
