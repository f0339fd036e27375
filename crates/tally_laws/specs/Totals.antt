-- The tallies on the pages of all processors, added up task by task, and the summary that they tell (this project's
-- profile).
use Rattle.std.specs.Prelude.{◌≡◌, ℕ, zero, suc, ◌+◌, ◌*◌, ◌≤◌, ◌==◌, if◌then◌else◌, List, [], ◌++◌, length, map}
use Rattle.std.specs.Prelude.{sum_by}
use Rattle.cfs_model.specs.Limits.{greatest_runtime}
use Rattle.cfs_model.specs.Machine.{Machine}
use Rattle.cfs_model.specs.Claimed.{Claimed}
use Rattle.replay_model.specs.Noted.{PageView}
use Rattle.replay_model.specs.Summary.{SummaryView, is_switch, is_migration, is_birth, is_death, how_many, tally_of}
use Rattle.replay_model.specs.Summary.{tasks_of_run}
use Rattle.cfs_model.specs.declared.task.Task.{Task}
use Rattle.replay_model.specs.declared.page.Tally.{Tally}

-- the tallies on the pages of the processors below a number, page after page
abbrev pub tallies_below : (ℕ → PageView) → ℕ → List Tally
tallies_below pages zero = []
tallies_below pages (suc cpu) = tallies_below pages cpu ++ (pages cpu).tallies

-- what some tallies say of a pid, added up
abbrev pub total_of : List Tally → ℕ → Tally
total_of tallies pid = record {
  pid = pid;
  ran = sum_by (λ (tally : Tally). if tally.pid == pid then tally.ran else 0) tallies;
  charged = sum_by (λ (tally : Tally). if tally.pid == pid then tally.charged else 0) tallies;
  picks = sum_by (λ (tally : Tally). if tally.pid == pid then tally.picks else 0) tallies;
}

-- a summary of events with these tallies added up, one total for each task of the run, in the order of the tasks
abbrev pub summary_by : List Tally → List Task → List Claimed → SummaryView
summary_by tallies tasks events = record {
  events = length events;
  switches = how_many is_switch events;
  migrations = how_many is_migration events;
  births = how_many is_birth events;
  deaths = how_many is_death events;
  tallies = map (total_of tallies) (tasks_of_run tasks events);
}

-- of each pid the tallies on the pages of the processors below a number add up to what it did over the events and
-- states of a run
abbrev pub TalliesAddUp : Machine → List Claimed → List Machine → (ℕ → PageView) → ℕ → Type 0
TalliesAddUp first events states pages cpus =
    (pid : ℕ) → total_of (tallies_below pages cpus) pid ≡ tally_of first events states pid

-- what so many events make of a tally at most, where their times are at most a last one: each charges at most two
-- processors, each for no longer than that time and by no more than the greatest virtual runtime and twice the drift,
-- and it picks at most once
abbrev pub IsOfAtMost : ℕ → ℕ → ℕ → Tally → Type 0
IsOfAtMost count last drift tally =
    (tally.ran ≤ count * (2 * last)) × (tally.charged ≤ count * (2 * (greatest_runtime + 2 * drift)))
    × (tally.picks ≤ count)
