use Rattle.std.proofs.Common.{length, take, ap, subst, arith, ◌∙◌}
use Rattle.std.proofs.lemmas.List.{length-map}
use Rattle.cfs_model.specs.Claimed.{Claimed}
use Rattle.cfs_model.specs.Least.{greatest_settings}
use Rattle.sched_record.specs.Record.{record_view}
use Rattle.sched_record.specs.Window.{window_view}
use Rattle.ticket_book.specs.SaidEvents.{events_of}
use Rattle.window_audit.specs.Whole.{beginning_of}
use Rattle.window_audit.proofs.WholeRecord.{window_some}
use Rattle.least_audit.specs.Audit.{IsLeastToldOf}
use Rattle.least_audit.proofs.WholeRecord.{least_fault_of, least_next, least_seen, least_whole}
use Rattle.least_audit.proofs.whole.least_in_windows.Goals as goal

pub go_through-requires-clause-some : goal.go_through-requires-clause-some
go_through-requires-clause-some g c κs within =
    let r = record_view c.args.joined.now in
    let n = ap length c.events-count.ensures in
    let t = c.loop-from-test.true in
    window_some greatest_settings r c.args.joined.now.in_order c.loop-from.from c.args.size
    (window_view c.fill.new.window) (omega (arith, n, t)) c.requires c.in_ok-fill.ensures

pub go_through-requires-clause-next : goal.go_through-requires-clause-next
go_through-requires-clause-next g c κs within =
    let r = record_view c.args.joined.now in (
      beginning_of greatest_settings r,
      take c.loop-from.from (events_of r),
      least_next r c.args.joined.now.in_order c.loop-from.from c.args.size c.last_line-last.result
          (window_view c.fill.new.window) c.loop-from.audit c.last_line-last.ensures c.last_line-last.type_inv
          c.in_ok-fill.ensures c.loop-from.invariant,
    )

pub returns-in-Some : goal.returns-in-Some
returns-in-Some g c =
    let r = record_view c.args.joined.now in
    let order = c.args.joined.now.in_order in
    let of = beginning_of greatest_settings r in
    let so_far = take c.loop-from.from (events_of r) in
    let window = window_view c.fill.new.window in
    let next = least_next r order c.loop-from.from c.args.size c.last_line-last.result window c.loop-from.audit
    c.last_line-last.ensures c.last_line-last.type_inv c.in_ok-fill.ensures c.loop-from.invariant in
    least_fault_of r order c.loop-from.from c.args.size window c.in-Some.fault c.windows.ensures.stays
    c.first_faults.ensures.first_bad c.least_settings.ensures.bad_at_all c.in_ok-fill.ensures
    (subst (λ told. IsLeastToldOf of so_far window told c.go_through.new.self) c.in-Some.is
    (c.in_ok-fault.ensures of so_far next))

pub loop-from-preserved : goal.loop-from-preserved
loop-from-preserved g c =
    let r = record_view c.args.joined.now in
    let order = c.args.joined.now.in_order in
    let of = beginning_of greatest_settings r in
    let so_far = take c.loop-from.from (events_of r) in
    let window = window_view c.fill.new.window in
    let next = least_next r order c.loop-from.from c.args.size c.last_line-last.result window c.loop-from.audit
    c.last_line-last.ensures c.last_line-last.type_inv c.in_ok-fill.ensures c.loop-from.invariant in
    least_seen r order c.loop-from.from c.args.size (length c.events.result.now) window c.go_through.new.self
    c.in_ok-fill.ensures (ap length c.events.ensures ∙ length-map window (λ (event : Claimed). event.entry))
    (subst (λ told. IsLeastToldOf of so_far window told c.go_through.new.self) c.in_default.is
    (c.in_ok-fault.ensures of so_far next))

pub finish-requires : goal.finish-requires
finish-requires g c =
    let r = record_view c.args.joined.now in (
      r,
      least_whole r c.args.joined.now.in_order c.loop-from.from c.loop-from.audit
          (let n = ap length c.events-count.ensures in let t = c.loop-from-test.false in omega (arith, n, t))
          c.loop-from.invariant,
    )

pub returns : goal.returns
returns g c =
    let r = record_view c.args.joined.now in
    c.finish.ensures r
    (least_whole r c.args.joined.now.in_order c.loop-from.from c.loop-from.audit
    (let n = ap length c.events-count.ensures in let t = c.loop-from-test.false in omega (arith, n, t))
    c.loop-from.invariant)
