use Rattle.std.proofs.Common.{◌≤◌, length, take, ap, subst, arith, ◌∙◌}
use Rattle.std.proofs.lemmas.List.{length-map}
use Rattle.cfs_model.specs.Claimed.{Claimed}
use Rattle.cfs_model.specs.Limits.{greatest_setting}
use Rattle.sched_record.specs.Record.{record_view}
use Rattle.sched_record.specs.Window.{window_view}
use Rattle.ticket_book.specs.SaidEvents.{events_of}
use Rattle.window_audit.specs.Audit.{IsToldOf}
use Rattle.window_audit.specs.Whole.{beginning_of}
use Rattle.window_audit.proofs.WholeRecord.{fault_of, next_of, seen_more, whole_of, window_some}
use Rattle.window_audit.proofs.whole.audit_in_windows.Goals as goal

pub go_through-requires-clause-some : goal.go_through-requires-clause-some
go_through-requires-clause-some g c κs within =
    let r = record_view c.args.joined.now in
    let n = ap length c.events-count.ensures in
    let t = c.loop-from-test.true in
    window_some c.args.knobs r c.args.joined.now.in_order c.loop-from.from c.args.size (window_view c.fill.new.window)
    (omega (arith, n, t)) c.requires c.in_ok-fill.ensures

pub go_through-requires-clause-next : goal.go_through-requires-clause-next
go_through-requires-clause-next g c κs within =
    let r = record_view c.args.joined.now in (
      beginning_of c.args.knobs r,
      take c.loop-from.from (events_of r),
      next_of c.args.knobs r c.args.joined.now.in_order c.loop-from.from c.args.size c.last_line.result
          (window_view c.fill.new.window) c.loop-from.audit c.last_line.ensures c.last_line.type_inv
          c.in_ok-fill.ensures c.loop-from.invariant,
    )

pub returns-in-Some : goal.returns-in-Some
returns-in-Some g c =
    let r = record_view c.args.joined.now in
    let order = c.args.joined.now.in_order in
    let of = beginning_of c.args.knobs r in
    let so_far = take c.loop-from.from (events_of r) in
    let window = window_view c.fill.new.window in
    let next = next_of c.args.knobs r order c.loop-from.from c.args.size c.last_line.result window c.loop-from.audit
    c.last_line.ensures c.last_line.type_inv c.in_ok-fill.ensures c.loop-from.invariant in
    fault_of c.args.knobs r order c.loop-from.from c.args.size window c.in-Some.fault c.windows.ensures.stays
    c.first_faults.ensures.first_bad c.in_ok-fill.ensures
    (subst (λ told. IsToldOf of so_far window told c.go_through.new.self) c.in-Some.is
    (c.in_ok-fault.ensures of so_far next))

pub loop-from-preserved : goal.loop-from-preserved
loop-from-preserved g c =
    let r = record_view c.args.joined.now in
    let order = c.args.joined.now.in_order in
    let of = beginning_of c.args.knobs r in
    let so_far = take c.loop-from.from (events_of r) in
    let window = window_view c.fill.new.window in
    let next = next_of c.args.knobs r order c.loop-from.from c.args.size c.last_line.result window c.loop-from.audit
    c.last_line.ensures c.last_line.type_inv c.in_ok-fill.ensures c.loop-from.invariant in
    seen_more c.args.knobs r order c.loop-from.from c.args.size (length c.events.result.now) window
    c.go_through.new.self c.in_ok-fill.ensures
    (ap length c.events.ensures ∙ length-map window (λ (event : Claimed). event.entry))
    (subst (λ told. IsToldOf of so_far window told c.go_through.new.self) c.in_default.is
    (c.in_ok-fault.ensures of so_far next))

pub finish-requires : goal.finish-requires
finish-requires g c =
    let r = record_view c.args.joined.now in (
      beginning_of c.args.knobs r,
      events_of r,
      whole_of c.args.knobs r c.args.joined.now.in_order c.loop-from.from c.last_time.result c.last_line.result
          c.loop-from.audit
          (let n = ap length c.events-count.ensures in let t = c.loop-from-test.false in omega (arith, n, t))
          c.last_time.ensures c.last_time.type_inv c.last_line.ensures c.last_line.type_inv
          (subst (λ n. n ≤ greatest_setting) c.drift.ensures.same c.drift.ensures.in_range) c.loop-from.invariant,
    )

pub returns : goal.returns
returns g c =
    let r = record_view c.args.joined.now in
    c.finish.ensures (beginning_of c.args.knobs r) (events_of r)
    (whole_of c.args.knobs r c.args.joined.now.in_order c.loop-from.from c.last_time.result c.last_line.result
    c.loop-from.audit
    (let n = ap length c.events-count.ensures in let t = c.loop-from-test.false in omega (arith, n, t))
    c.last_time.ensures c.last_time.type_inv c.last_line.ensures c.last_line.type_inv
    (subst (λ n. n ≤ greatest_setting) c.drift.ensures.same c.drift.ensures.in_range) c.loop-from.invariant)
