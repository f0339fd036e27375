-- What is wrong with an event that needs more of a setting than there is (this project's profile).
use Rattle.std.specs.Prelude.{◌≡◌, ◌≢◌, ℕ, ◌+◌, ◌<◌, ◌≤◌, true, Option, Some, None, ℤ, List, [], ◌∷◌, ◌++◌}
use Rattle.cfs_model.specs.Claimed.{Claimed}
use Rattle.cfs_model.specs.Knobs.{KnobsView, value_at}
use Rattle.cfs_model.specs.Order.{IsStart}
use Rattle.cfs_model.specs.Run.{IsRun}
use Rattle.cfs_model.specs.Start.{start_machine}
use Rattle.cfs_model.specs.declared.charge_line.ChargeLine.{ChargeLine}
use Rattle.cfs_model.specs.declared.kind.Kind.{Kind}
use Rattle.cfs_model.specs.declared.kind.Kind.TheVariants.{NotLeast, WakeBounds, ForkBounds, IdleTooLong, WrongCharge}
use Rattle.cfs_model.specs.declared.setting.Setting.{Setting}
use Rattle.cfs_model.specs.declared.setting.Setting.TheVariants.{Granularity, Credit, Debit, Slack, Drift}
use Rattle.cfs_model.specs.declared.task.Task.{Task}
use Rattle.replay_model.specs.Cause.{IsFirstFault}
use Rattle.replay_model.specs.Cut.{touches}
use Rattle.replay_model.specs.Needs.{PassesNeeding}
use Rattle.replay_model.specs.Page.{ReplayStateView}
use Rattle.replay_model.specs.Record.{TimesRise}
use Rattle.replay_model.specs.StepAt.{step_at}
use Rattle.replay_model.specs.declared.step.Deed.{Deed}
use Rattle.replay_model.specs.declared.step.Deed.TheVariants.{Switch, Wake, Born}
use Rattle.replay_model.specs.declared.step.Step.{Step}
use Rattle.replay_laws.specs.CutReplay.{IsCutReplay}

-- the kind of a fault that passes the bound of a setting
abbrev pub kind_of : Setting → Kind
kind_of Granularity = NotLeast
kind_of Credit = WakeBounds
kind_of Debit = ForkBounds
kind_of Slack = IdleTooLong
kind_of Drift = WrongCharge

-- whom a deed picks, wakes or gives birth to
abbrev pub placed_by : Deed → ℕ
placed_by (Switch prev prev_nice way next next_nice) = next
placed_by (Wake pid nice) = pid
placed_by (Born pid nice policy) = pid
placed_by _ = 0

-- whom a line charges
abbrev pub charged_by : Option ChargeLine → ℕ
charged_by None = 0
charged_by (Some charge) = charge.pid

-- of which task a step needs so much of a setting; of the slack, of none
abbrev pub needing : Setting → Step → ℕ
needing Slack step = 0
needing Drift step = charged_by step.charge
needing _ step = placed_by step.deed

-- settings that have less than what is needed of one of them, and as much of each other
pub record IsShort (which : Setting) (needs knobs : KnobsView) : Type 0 where
  pub less : value_at knobs which < value_at needs which
  pub others : (other : Setting) → other ≢ which → value_at needs other ≤ value_at knobs other

-- where the events before one are a run, and those with it are one by no more slack, and its step at a processor, as
-- the replay of those before finds it, needs more of another setting than there is, and no more of the others, the
-- first fault of all events is at this one, and is of that setting and of the task of which so much is needed
abbrev pub ShortStepIsFault : Type 0
ShortStepIsFault = (knobs wider other : KnobsView) (start : ℕ) (floors : List ℤ) (tasks : List Task)
    (before rest : List Claimed) (event : Claimed) (cpu : ℕ) (last found after : ReplayStateView) (needs : KnobsView)
    (which : Setting)
    → IsStart floors tasks → TimesRise start before
    → IsRun knobs start (start_machine start floors tasks) before
    → IsRun wider start (start_machine start floors tasks) (before ++ event ∷ []) → wider.slack ≤ knobs.slack
    → touches cpu event ≡ true → IsCutReplay knobs start floors tasks before cpu last
    → found.part ≡ last.part → found.since ≡ last.since
    → PassesNeeding other cpu found (step_at cpu event) after needs
    → which ≢ Slack → IsShort which needs knobs
    → IsFirstFault knobs start (start_machine start floors tasks) (before ++ event ∷ rest) event.entry.line (record {
      cpu = cpu;
      pid = needing which (step_at cpu event);
      kind = kind_of which;
    })

-- so it is where a processor, touched or not, has idled beside a waiting task for longer than the slack at the event's
-- time, and no lower one has
abbrev pub ShortSlackIsFault : Type 0
ShortSlackIsFault = (knobs : KnobsView) (start : ℕ) (floors : List ℤ) (tasks : List Task)
    (before rest : List Claimed) (event : Claimed) (cpu since : ℕ) (last : ℕ → ReplayStateView)
    → IsStart floors tasks → TimesRise start before
    → IsRun knobs start (start_machine start floors tasks) before
    → ((one : ℕ) → IsCutReplay knobs start floors tasks before one (last one))
    → (last cpu).since ≡ Some since → since + knobs.slack < event.entry.time
    → ((lower since : ℕ) → lower < cpu → (last lower).since ≡ Some since → event.entry.time ≤ since + knobs.slack)
    → IsFirstFault knobs start (start_machine start floors tasks) (before ++ event ∷ rest) event.entry.line (record {
      cpu = cpu;
      pid = 0;
      kind = IdleTooLong;
    })
