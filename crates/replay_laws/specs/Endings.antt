-- What ends a run beside a step that fails on its own processor (this project's profile).
use Rattle.std.specs.Prelude.{◌≡◌, ◌≢◌, ℕ, true, ℤ, List, [], ◌∷◌, ◌++◌}
use Rattle.cfs_model.specs.Knobs.{KnobsView}
use Rattle.cfs_model.specs.Start.{start_machine}
use Rattle.cfs_model.specs.Claimed.{Claimed}
use Rattle.cfs_model.specs.Run.{IsRun}
use Rattle.cfs_model.specs.Order.{IsStart}
use Rattle.replay_model.specs.Deeds.{left_ticket, came_ticket}
use Rattle.replay_model.specs.QueueTests.{IsIdleTooLong}
use Rattle.replay_model.specs.StepAt.{step_at}
use Rattle.replay_model.specs.Record.{TimesRise}
use Rattle.replay_model.specs.Page.{ReplayStateView, PassesStep}
use Rattle.replay_model.specs.Roll.{named, roll_of}
use Rattle.replay_laws.specs.CutReplay.{IsCutReplay}
use Rattle.cfs_model.specs.declared.act.Act.TheVariants.{Born, Shift}
use Rattle.cfs_model.specs.declared.task.Task.{Task}

-- where a processor, touched or not, has idled for too long at an event's time, the events up to it are no run
abbrev pub IdlingEndsRun : Type 0
IdlingEndsRun = (knobs : KnobsView) (start : ℕ) (floors : List ℤ) (tasks : List Task) (before : List Claimed)
    (event : Claimed) (cpu : ℕ) (last : ReplayStateView)
    → IsStart floors tasks → TimesRise start before → IsCutReplay knobs start floors tasks before cpu last
    → IsIdleTooLong knobs.slack last.since event.entry.time 0
    → ¬ IsRun knobs start (start_machine start floors tasks) (before ++ event ∷ [])

-- where a pid that is born is alive by the roll, the events up to its birth are no run
abbrev pub BirthEndsRun : Type 0
BirthEndsRun = (knobs : KnobsView) (start : ℕ) (floors : List ℤ) (tasks : List Task) (before : List Claimed)
    (event : Claimed) (cpu pid : ℕ) (nice : ℤ)
    → IsStart floors tasks → event.entry.act ≡ Born cpu pid nice → roll_of (named tasks) before pid ≡ true
    → ¬ IsRun knobs start (start_machine start floors tasks) (before ++ event ∷ [])

-- where both ends of a migration pass and their tickets differ, the events up to it are no run
abbrev pub TicketsEndRun : Type 0
TicketsEndRun = (knobs : KnobsView) (start : ℕ) (floors : List ℤ) (tasks : List Task) (before : List Claimed)
    (event : Claimed) (orig dest pid : ℕ) (nice : ℤ) (at_orig at_dest left came : ReplayStateView)
    → IsStart floors tasks → TimesRise start before → event.entry.act ≡ Shift orig dest pid nice
    → IsCutReplay knobs start floors tasks before orig at_orig
    → IsCutReplay knobs start floors tasks before dest at_dest
    → (leave : PassesStep knobs orig at_orig (step_at orig event) left)
    → (arrive : PassesStep knobs dest at_dest (step_at dest event) came)
    → left_ticket leave.found event.entry.line pid
    ≢ came_ticket arrive.found event.entry.line pid nice event.policy event.claim
    → ¬ IsRun knobs start (start_machine start floors tasks) (before ++ event ∷ [])
