use Rattle.std.proofs.Common.{take}
use Rattle.std.specs.Prelude.{All}
use Rattle.sched_record.specs.Join.{IsInside}
use Rattle.sched_record.proofs.joining.outside_line.Given as goal

abbrev pub invariant-loop-event : goal.invariant-loop-event
invariant-loop-event l = All (IsInside l.cpus) (take l.event-index l.events)
