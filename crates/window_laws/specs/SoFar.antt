-- What holds between two windows (this project's profile).
use Rattle.std.specs.Prelude.{◌≡◌, ℕ, ◌<◌, Bool, ℤ, List}
use Rattle.std.specs.List.{AllByRecursion}
use Rattle.cfs_model.specs.Knobs.{KnobsView}
use Rattle.cfs_model.specs.Claimed.{Claimed}
use Rattle.replay_model.specs.Page.{ReplayStateView}
use Rattle.replay_model.specs.Roll.{BirthsAreNew, named, roll_of}
use Rattle.replay_model.specs.Tickets.{TicketsAgree}
use Rattle.replay_laws.specs.CutReplay.{PassesCut}
use Rattle.window_laws.specs.Kept.{kept_of}
use Rattle.cfs_model.specs.declared.task.Task.{Task}

-- of the events so far: each processor's replay of its steps among them passes, and this is kept of where it ends; the
-- tickets of each migration agree, each birth is new, and these pids are alive
pub record IsSoFar (knobs : KnobsView) (start : ℕ) (floors : List ℤ) (tasks : List Task) (events : List Claimed)
    (cpus : ℕ) (kept : ℕ → ReplayStateView) (alive : ℕ → Bool) : Type 0 where
  pub last : ℕ → ReplayStateView
  pub passes : (cpu : ℕ) → cpu < cpus → PassesCut knobs start floors tasks events cpu (last cpu)
  pub keeps : (cpu : ℕ) → cpu < cpus → kept cpu ≡ kept_of (last cpu)
  pub tickets : AllByRecursion (λ event. TicketsAgree (λ cpu. (last cpu).page) event.entry.line event.entry.act) events
  pub births : BirthsAreNew (named tasks) events
  pub roll : (pid : ℕ) → alive pid ≡ roll_of (named tasks) events pid
