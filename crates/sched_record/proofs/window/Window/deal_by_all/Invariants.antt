use Rattle.std.proofs.Common.{◌≡◌, take}
use Rattle.replay_model.specs.Cut.{steps_at}
use Rattle.sched_record.specs.Window.{window_view}
use Rattle.sched_record.proofs.window.Window.deal_by_all.Given as goal

abbrev pub invariant-loop-index : goal.invariant-loop-index
invariant-loop-index l = l.steps.items ≡ steps_at l.cpu (take l.index (window_view l.self))
