use Rattle.std.proofs.Common.{◌≢◌, ℕ, ◌<◌, get_or}
use Rattle.replay_model.specs.declared.page.Tally.{Tally}
use Rattle.queue_replay.proofs.row_tallies.RowTallies.search.Given as goal

abbrev pub invariant-loop-index : goal.invariant-loop-index
invariant-loop-index l = (k : ℕ) (d : Tally) → k < l.index → (get_or l.self.list.items k d).pid ≢ l.pid
