use Rattle.std.proofs.Common.{◌≡◌, ◌-◌, take, drop}
use Rattle.cfs_model.specs.Claimed.{claimed}
use Rattle.sched_record.specs.RecordView.{policy_of}
use Rattle.sched_record.specs.Record.{record_view}
use Rattle.sched_record.specs.Window.{window_view}
use Rattle.sched_record.proofs.record.Record.fill.Given as goal

abbrev pub invariant-loop-index : goal.invariant-loop-index
invariant-loop-index l =
    let r = record_view l.self in
    window_view l.window ≡ take (l.index - l.from)
    (drop l.from (claimed r.claims r.nices r.charges (policy_of r) r.events))
