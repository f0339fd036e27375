use Rattle.std.proofs.Common.{◌<◌, length, get_or, ap, arith, ◌∙◌}
use Rattle.cfs_model.specs.Claimed.{with_claim}
use Rattle.sched_record.specs.RecordView.{policy_of}
use Rattle.sched_record.specs.Record.{record_view}
use Rattle.sched_record.specs.Window.{window_view}
use Rattle.sched_record.proofs.Windows.{fills_all, fills_one}
use Rattle.sched_record.proofs.record.Record.fill.Goals as goal

pub loop-index-preserved : goal.loop-index-preserved
loop-index-preserved c =
    let r = record_view c.args.self.now in
    let i = c.loop-index.index in
    let n = ap length c.events-events.ensures in
    let t = c.loop-index-test.true in
    let m = c.min.ensures in
    let within : i < length r.events = omega (arith, n, t, m) in
    fills_one (with_claim r.claims r.nices r.charges (policy_of r)) r.events c.args.from i c.index-events-index.result
    c.saying_at.result (window_view c.loop-index.window) (window_view c.add.new.self) c.loop-index.auto.index within
    (c.index-events-index.is ∙ ap (λ es. get_or es i c.index-events-index.result) c.events-events.ensures)
    (c.saying_at.ensures c.index-events-index.result) c.loop-index.invariant c.in_ok-add.ensures.added

pub returns : goal.returns
returns c =
    let r = record_view c.args.self.now in
    let n = ap length c.events-events.ensures in
    let a = c.loop-index.auto.index-end in
    let f = c.loop-index-test.false in
    fills_all (with_claim r.claims r.nices r.charges (policy_of r)) r.events c.args.from c.loop-index.index c.args.most
    c.min.result (window_view c.loop-index.window) c.loop-index.auto.index
    (let m = c.min.ensures in omega (arith, n, m)) (omega (arith, a, f)) c.loop-index.invariant
