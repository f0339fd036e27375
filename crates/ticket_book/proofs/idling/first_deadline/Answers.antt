use Rattle.std.proofs.Common.{◌≡◌, ◌+◌, ap, sym, subst, ◌∙◌, map, arith}
use Rattle.sched_record.specs.Lesser.{lesser_of}
use Rattle.ticket_book.specs.Idling.{NoneFirst, deadline_on}
use Rattle.ticket_book.proofs.Deadlines.{one_deadline}
use Rattle.ticket_book.proofs.idling.first_deadline.Goals as goal

pub loop-page-preserved : goal.loop-page-preserved
loop-page-preserved g c =
    let pages = c.args.pages.now in
    let page = c.page-item.result in
    let result : lesser_of c.loop-page.first (deadline_on (g.P.Paged.page page)) ≡ c.lesser-first.result =
    sym (c.lesser-first.ensures ∙ ap (lesser_of c.loop-page.first) c.deadline_on.ensures) in
    subst (λ first. NoneFirst (map g.P.Paged.page pages) first (c.loop-page.page-index + 1)) result
    (one_deadline g.P.Paged.page pages c.loop-page.page-index page c.loop-page-test.true c.page-item.is
    c.loop-page.first c.loop-page.invariant)

pub returns : goal.returns
returns g c = λ cpu lt. c.loop-page.invariant cpu (omega arith)
