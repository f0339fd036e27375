-- What the steps of two windows need (this project's profile).
use Rattle.std.specs.Prelude.{ℕ, List, ◌++◌}
use Rattle.cfs_model.specs.Knobs.{KnobsView}
use Rattle.cfs_model.specs.Least.{larger}
use Rattle.replay_model.specs.Needs.{AllPassNeeding}
use Rattle.replay_model.specs.Page.{ReplayStateView}
use Rattle.window_laws.specs.Kept.{kept_of, state_behind}
use Rattle.replay_model.specs.declared.step.Step.{Step}

-- the steps of one window, and from what is kept behind it those of the next, need of each setting the larger of what
-- each needs
abbrev pub NeedsInParts : Type 0
NeedsInParts = (knobs : KnobsView) (cpu : ℕ) (first last end : ReplayStateView) (steps more : List Step)
    (here later : KnobsView)
    → AllPassNeeding knobs cpu first steps last here
    → AllPassNeeding knobs cpu (kept_of last) more end later
    → AllPassNeeding knobs cpu first (steps ++ more) (state_behind last.page end) (larger here later)
