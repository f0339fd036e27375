use Rattle.std.proofs.Common.{◌≡◌, take}
use Rattle.replay_model.specs.Cut.{steps_at}
use Rattle.sched_record.specs.Window.{window_view}
use Rattle.sched_record.proofs.window.Window.deal.Given as goal

abbrev pub invariant-loop-index : goal.invariant-loop-index
invariant-loop-index l = l.steps.items ≡ take l.index-index (steps_at l.cpu (window_view l.self))
