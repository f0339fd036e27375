use Rattle.std.proofs.Common.{ℕ, ◌<◌, ◌≤◌, length, get_or}
use Rattle.cfs_model.specs.declared.act.Entry.{Entry}
use Rattle.cfs_model.specs.declared.idle_line.IdleLine.{IdleLine}
use Rattle.sched_record.specs.Join.{NamesBirth}
use Rattle.sched_record.proofs.Walk.{HasPassed}
use Rattle.sched_record.proofs.joining.first_stray_idle.Given as goal

abbrev pub invariant-loop-idle : goal.invariant-loop-idle
invariant-loop-idle l = record {
  within : l.index ≤ length l.events;
  passed : HasPassed (λ (event : Entry). event.line) (λ (idle : IdleLine). idle.line) l.events l.idles l.index
      l.idle-index;
  born : (k : ℕ) (d : IdleLine) → k < l.idle-index → NamesBirth l.events (get_or l.idles k d);
}
