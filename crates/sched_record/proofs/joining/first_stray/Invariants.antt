use Rattle.std.proofs.Common.{◌≤◌, length}
use Rattle.cfs_model.specs.declared.act.Entry.{Entry}
use Rattle.sched_record.proofs.Walk.{AreOnEvents, HasPassed}
use Rattle.sched_record.proofs.joining.first_stray.Given as goal

abbrev pub invariant-loop-item : goal.invariant-loop-item
invariant-loop-item g l = record {
  within : l.index ≤ length l.events;
  passed : HasPassed (λ (event : Entry). event.line) g.T.OnLine.line l.events l.items l.index l.item-index;
  on_events : AreOnEvents g.T.OnLine.line l.events l.items l.item-index;
}
