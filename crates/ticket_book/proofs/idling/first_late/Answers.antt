use Rattle.std.proofs.Common.{sym}
use Rattle.ticket_book.proofs.Deadlines.{one_in_time, first_late}
use Rattle.ticket_book.proofs.idling.first_late.Goals as goal

pub returns-then-is_late-clause-found : goal.returns-then-is_late-clause-found
returns-then-is_late-clause-found g c =
    first_late g.P.Paged.page c.args.pages.now c.loop-cpu.cpu c.index-pages-cpu.result c.loop-cpu-test.true
    c.index-pages-cpu.is c.args.time (sym c.if-is_late.ensures) c.loop-cpu.invariant

pub loop-cpu-preserved : goal.loop-cpu-preserved
loop-cpu-preserved g c =
    one_in_time g.P.Paged.page c.args.pages.now c.loop-cpu.cpu c.index-pages-cpu.result c.loop-cpu-test.true
    c.index-pages-cpu.is c.args.time (sym c.if-is_late.ensures) c.loop-cpu.invariant
