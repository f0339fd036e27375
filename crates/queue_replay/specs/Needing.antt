-- What a replay says of the least settings (this project's profile).
use Rattle.std.specs.Prelude.{◌≡◌, ℕ, ◌≤◌, Option, None, length}
use Rattle.cfs_model.specs.Least.{larger}
use Rattle.cfs_model.specs.Knobs.{KnobsView}
use Rattle.cfs_model.specs.declared.claim.Claim.{Claim}
use Rattle.replay_model.specs.Cut.{StreamView}
use Rattle.replay_model.specs.Needs.{IsBirthNeed, IsPageNeeding, IsPickNeed, IsWakeNeed, PassesNeeding, only_slack}
use Rattle.replay_model.specs.Noted.{PageView}
use Rattle.replay_model.specs.Page.{ReplayStateView}
use Rattle.replay_model.specs.Part.{Part}
use Rattle.replay_model.specs.declared.step.Deed.{Deed}
use Rattle.replay_model.specs.declared.step.Deed.TheVariants.{Switch, Wake, Born, Leave, Arrive}
use Rattle.replay_model.specs.declared.step.Step.{Step}

-- what a deed needs of the one setting that it asks for; a task that leaves or comes asks for none
abbrev pub IsNeed : Part → Deed → Option Claim → ℕ → Type 0
IsNeed part (Switch prev prev_nice way next next_nice) claim need =
    IsPickNeed part (Switch prev prev_nice way next next_nice) need
IsNeed part (Wake pid nice) claim need = IsWakeNeed part (Wake pid nice) claim need
IsNeed part (Born pid nice policy) claim need = IsBirthNeed part (Born pid nice policy) claim need
IsNeed part (Leave pid nice dest) claim need = need ≡ 0
IsNeed part (Arrive pid nice orig policy) claim need = need ≡ 0

-- what a step needs whose deed has this need, after the processor has idled beside a waiting task for so long, and
-- whose told charge leaves a drift of so much
abbrev pub step_needs : Deed → ℕ → ℕ → ℕ → KnobsView
step_needs (Switch prev prev_nice way next next_nice) need idled drift =
    record (only_slack idled) { granularity = need; drift = drift }
step_needs (Wake pid nice) need idled drift = record (only_slack idled) { credit = need; drift = drift }
step_needs (Born pid nice policy) need idled drift = record (only_slack idled) { debit = need; drift = drift }
step_needs (Leave pid nice dest) need idled drift = record (only_slack idled) { drift = drift }
step_needs (Arrive pid nice orig policy) need idled drift = record (only_slack idled) { drift = drift }

-- the replay goes on by a step that passes, and its needs rise to what the step needs
abbrev pub PassesRaising : KnobsView → ℕ → ReplayStateView → KnobsView → Step → ReplayStateView → KnobsView → Type 0
PassesRaising knobs cpu before needed step after needs =
    (here : KnobsView) × PassesNeeding knobs cpu before step after here × (needs ≡ larger needed here)

-- where all steps were made and nothing failed, these are the needs of the stream's whole replay
abbrev pub HasNeeds : StreamView → KnobsView → ℕ → PageView → KnobsView → Type 0
HasNeeds stream knobs made page needs =
    page.fault ≡ None → length stream.steps ≤ made → IsPageNeeding stream knobs page needs
