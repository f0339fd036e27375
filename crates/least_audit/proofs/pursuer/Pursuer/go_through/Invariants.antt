use Rattle.std.proofs.Common.{take}
use Rattle.queue_replay.specs.Windowed.{windowed_view}
use Rattle.window_audit.specs.States.{forgotten}
use Rattle.least_audit.specs.Pursuit.{Pursues}
use Rattle.least_audit.proofs.pursuer.Pursuer.go_through.Given as goal

abbrev pub invariant-loop-step : goal.invariant-loop-step
invariant-loop-step l =
    Pursues (forgotten (windowed_view l.fn.self.replay)) (take l.step-index l.step-items) (windowed_view l.self.replay)
    l.self.rises
