use Rattle.std.proofs.Common.{sym, ap, ◌∙◌, arith}
use Rattle.std.specs.Option.{is_some}
use Rattle.ticket_book.proofs.Plain.{one_faultless}
use Rattle.ticket_book.proofs.walk.have_no_fault.Goals as goal

pub loop-page-preserved : goal.loop-page-preserved
loop-page-preserved g c =
    one_faultless g.P.Paged.page c.args.pages.now c.loop-page.page-index c.page-item.result c.loop-page-test.true
    c.page-item.is (ap is_some (sym c.fault.ensures) ∙ sym c.if-is_some.ensures) c.loop-page.invariant

pub returns : goal.returns
returns g c = λ cpu lt. c.loop-page.invariant cpu (omega arith)
