-- Which pages suffice beside each other for what they tell together (this project's profile).
use Rattle.std.specs.Prelude.{◌≡◌, ℕ, ◌<◌, ◌≤◌, ◌⊎◌, ℤ, Some, IsSome, List, length}
use Rattle.cfs_model.specs.Knobs.{KnobsView}
use Rattle.cfs_model.specs.Claimed.{Claimed}
use Rattle.replay_model.specs.Cut.{steps_at, cut}
use Rattle.replay_model.specs.Noted.{PageView}
use Rattle.replay_model.specs.Page.{IsPageOf}
use Rattle.cfs_model.specs.declared.task.Task.{Task}
use Rattle.replay_model.specs.declared.page.StepFault.{StepFault}

-- the page of a processor's whole replay: up to its first fault, or by all its steps and the end test
pub record IsWholePage (knobs : KnobsView) (start : ℕ) (floors : List ℤ) (tasks : List Task) (events : List Claimed)
    (cpu : ℕ) (page : PageView) : Type 0 where
  pub made : ℕ
  pub is_page : IsPageOf (cut start floors tasks events cpu) knobs made page
  pub whole : IsSome page.fault ⊎ (length (steps_at cpu events) ≤ made)

-- one of the pages of the processors below a number has a fault on this line or before it: the least line of a fault
-- on them isn't past it
pub record HasFaultBy (pages : ℕ → PageView) (cpus line : ℕ) : Type 0 where
  pub cpu : ℕ
  pub within : cpu < cpus
  pub fault : StepFault
  pub is_fault : (pages cpu).fault ≡ Some fault
  pub by : fault.line ≤ line

-- the page of a processor, among those of all, suffices for what they tell together: its replay went to its first
-- fault, or by all its steps and the end test, or to a step on the line of a fault on one of the pages or past it
pub record SufficesAmong (knobs : KnobsView) (start : ℕ) (floors : List ℤ) (tasks : List Task) (events : List Claimed)
    (cpus : ℕ) (pages : ℕ → PageView) (cpu : ℕ) : Type 0 where
  pub made : ℕ
  pub is_page : IsPageOf (cut start floors tasks events cpu) knobs made (pages cpu)
  pub enough : IsSome (pages cpu).fault ⊎ (length (steps_at cpu events) ≤ made)
      ⊎ HasFaultBy pages cpus (pages cpu).line
