use Rattle.std.proofs.Common.{arith}
use Rattle.ticket_book.proofs.LargestNeeds.{all_larger, one_larger}
use Rattle.ticket_book.proofs.least_closing.largest_needs.Goals as goal

pub loop-page-init : goal.loop-page-init
loop-page-init c = record {
  largest_is = c.none-largest.ensures;
  have = λ cpu page below at. absurd (omega arith);
}

pub loop-page-preserved : goal.loop-page-preserved
loop-page-preserved c =
    one_larger c.args.pages.now c.loop-page.page-index c.page-item.result c.loop-page-test.true c.page-item.is
    c.replayed.ensures.needs c.loop-page.largest c.larger-largest.result
    c.needs.result c.needs.ensures c.larger-largest.ensures c.loop-page.invariant

pub returns : goal.returns
returns c =
    let all = all_larger c.args.pages.now c.loop-page.page-index c.loop-page.largest (omega arith)
    c.loop-page.invariant in
    record { largest = all.0; have = all.1 }
