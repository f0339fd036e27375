use Rattle.std.proofs.Common.{◌≡◌, ◌+◌, length, sym, subst, arith}
use Rattle.std.proofs.lemmas.Option.{slice_get-get_or}
use Rattle.std.specs.Prelude.{IfNone, IfSome, ℕ}
use Rattle.ticket_book.specs.Book.{page_at}
use Rattle.ticket_book.specs.Relying.{IsLeastFaultLine}
use Rattle.ticket_book.specs.Remade.{HasFaultAt}
use Rattle.ticket_book.proofs.LeastFaults.{least_more}
use Rattle.ticket_book.proofs.Owned.{line_none, line_some}
use Rattle.ticket_book.proofs.least_fault.least_fault.Goals as goal

pub loop-cpu-preserved : goal.loop-cpu-preserved
loop-cpu-preserved c = λ knobs r told.
    let slots = c.args.slots.now in
    let cpu = c.loop-cpu.cpu in
    let slot = page_at slots cpu in
    let here = told cpu _ (slice_get-get_or c.args.own.now cpu _ c.loop-cpu-test.true) in
    let none = subst (λ o. IfNone o ((line : ℕ) → ¬ HasFaultAt knobs r cpu slot line)) (sym c.fault_at.ensures)
    (line_none knobs r cpu _ slot here) in
    let some = subst (λ o. IfSome o (HasFaultAt knobs r cpu slot)) (sym c.fault_at.ensures)
    (line_some knobs r cpu _ slot here) in
    subst (IsLeastFaultLine knobs r slots (cpu + 1)) (sym c.lesser-least.ensures)
    (least_more knobs r slots cpu c.loop-cpu.least c.fault_at.result (c.loop-cpu.invariant knobs r told) none some)

pub returns : goal.returns
returns c = λ knobs r told.
    let most = c.loop-cpu.auto.cpu-end in
    let all = c.loop-cpu-test.false in
    let same : c.loop-cpu.cpu ≡ length c.args.own.now = omega (arith, most, all) in
    subst (λ n. IsLeastFaultLine knobs r c.args.slots.now n c.loop-cpu.least) same (c.loop-cpu.invariant knobs r told)
