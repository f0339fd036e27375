use Rattle.std.proofs.Common.{◌≡◌, map, take}
use Rattle.replay_model.specs.Noted.{new_tally}
use Rattle.queue_replay.proofs.row_tallies.RowTallies.of_pids.Given as goal

abbrev pub invariant-loop-pid : goal.invariant-loop-pid
invariant-loop-pid l = l.list.items ≡ map new_tally (take l.pid-index l.pids)
