use Rattle.std.proofs.Common.{◌≡◌, ℕ, take}
use Rattle.replay_model.specs.Roll.{named}
use Rattle.ticket_book.specs.Alive.{alive_view}
use Rattle.ticket_book.proofs.alive.Alive.new.Given as goal

abbrev pub invariant-loop-task : goal.invariant-loop-task
invariant-loop-task l = (pid : ℕ) → alive_view l.alive pid ≡ named (take l.task-index l.tasks) pid
