use Rattle.queue_replay.proofs.Windows.{IsThrough}
use Rattle.queue_replay.proofs.running.go_through.Given as goal

abbrev pub invariant-loop-step : goal.invariant-loop-step
invariant-loop-step l = IsThrough l.cpu l.knobs l.steps l.fn.state l.step-index l.state
