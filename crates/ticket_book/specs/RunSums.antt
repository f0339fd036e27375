-- What is summed up of a run's events as they come, before any tally is added (this project's profile).
use Rattle.std.specs.Prelude.{◌≡◌, List, [], length, map}
use Rattle.cfs_model.specs.declared.act.Entry.{Entry}
use Rattle.cfs_model.specs.declared.task.Task.{Task}
use Rattle.ticket_book.specs.EventCounts.{counts_of}
use Rattle.ticket_book.specs.Naming.{births_in, with_named}
use Rattle.ticket_book.specs.declared.run_sums.RunSums.{RunSums}

-- the sums are of these events, from these tasks on: a tally of nothing for each task, in the order in which they were
-- named or born
pub record AreSumsOf (tasks : List Task) (events : List Entry) (sums : RunSums) : Type 0 where
  pub count : sums.events ≡ length events
  pub counts : sums.counts ≡ counts_of events
  pub named : sums.tallies.table.rows ≡ with_named (births_in events) (with_named (map (λ task. task.pid) tasks) [])
