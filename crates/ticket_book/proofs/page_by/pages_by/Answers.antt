use Rattle.std.proofs.Common.{◌≡◌, ◌+◌, map, subst, sym, arith}
use Rattle.sched_record.specs.Record.{record_view}
use Rattle.ticket_book.specs.PageBy.{by_view}
use Rattle.ticket_book.proofs.ByOthers.{AreMade, all_made, one_made}
use Rattle.ticket_book.proofs.page_by.pages_by.Goals as goal

pub loop-cpu-preserved : goal.loop-cpu-preserved
loop-cpu-preserved c =
    let knobs = c.args.knobs in
    let r = record_view c.args.joined.now in
    subst (λ items. AreMade knobs r (map (by_view knobs) items) (c.loop-cpu.cpu + 1)) (sym c.in_ok-push.ensures.items)
    (one_made knobs r c.loop-cpu.all.items c.in_ok-page_by.field-0 c.loop-cpu.cpu c.loop-cpu.invariant
    c.in_ok-page_by.ensures)

pub returns : goal.returns
returns c =
    let knobs = c.args.knobs in
    let r = record_view c.args.joined.now in
    let count = c.cpus-cpu-end.ensures in
    let most = c.loop-cpu.auto.cpu-end in
    let all = c.loop-cpu-test.false in
    let same : c.loop-cpu.cpu ≡ r.cpus = omega (arith, count, most, all) in
    let pages = map (by_view knobs) c.loop-cpu.all.items in
    all_made knobs r pages (subst (AreMade knobs r pages) same c.loop-cpu.invariant)
