-- What a page's lists hold already changes no step that follows (this project's profile).
use Rattle.std.specs.Prelude.{ℕ, List}
use Rattle.cfs_model.specs.Knobs.{KnobsView}
use Rattle.replay_model.specs.Noted.{PageView}
use Rattle.replay_model.specs.Page.{ReplayStateView, IsReplay}
use Rattle.window_laws.specs.Kept.{kept_of, state_behind}
use Rattle.replay_model.specs.declared.step.Step.{Step}

-- a replay is one too with the lists of an earlier page before those of its own
abbrev pub ReplayBehind : Type 0
ReplayBehind = (knobs : KnobsView) (cpu : ℕ) (earlier : PageView) (before : ReplayStateView) (steps : List Step)
    (after : ReplayStateView)
    → IsReplay knobs cpu before steps after
    → IsReplay knobs cpu (state_behind earlier before) steps (state_behind earlier after)

-- so a replay from what is kept of a state is one from that state, whose lists stand before its page's
abbrev pub ReplayFromKept : Type 0
ReplayFromKept = (knobs : KnobsView) (cpu : ℕ) (last : ReplayStateView) (steps : List Step) (end : ReplayStateView)
    → IsReplay knobs cpu (kept_of last) steps end
    → IsReplay knobs cpu last steps (state_behind last.page end)
