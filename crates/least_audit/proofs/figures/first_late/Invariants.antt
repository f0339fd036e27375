use Rattle.std.proofs.Common.{◌+◌, ◌≤◌, take}
use Rattle.std.specs.List.{AllByRecursion}
use Rattle.cfs_model.specs.declared.act.Entry.{Entry}
use Rattle.least_audit.proofs.figures.first_late.Given as goal

abbrev pub invariant-loop-event : goal.invariant-loop-event
invariant-loop-event l =
    AllByRecursion (λ (x : Entry). x.time ≤ l.since + l.bound) (take l.event-index l.events)
