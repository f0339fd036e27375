use Rattle.std.proofs.Common.{◌≡◌, length, map, sym, ap, ◌∙◌, arith}
use Rattle.tally_laws.specs.Totals.{tallies_below}
use Rattle.ticket_book.specs.Tallying.{with_tallies}
use Rattle.ticket_book.specs.Told.{view_at}
use Rattle.ticket_book.proofs.Adding.{add_none}
use Rattle.ticket_book.proofs.PagesAdded.{page_added, page_fits}
use Rattle.ticket_book.proofs.run_sums.add_pages.Goals as goal

pub loop-page-init : goal.loop-page-init
loop-page-init g c = sym (add_none c.args.sums.now.table.rows)

pub add_all-requires : goal.add_all-requires
add_all-requires g c =
    page_fits g.P.Paged.page c.args.pages.now c.loop-page.page-index c.page-item.result c.loop-page-test.true
    c.page-item.is
    c.tallies.result.now c.tallies.ensures c.args.sums.now.table.rows c.loop-page.sums.table.rows c.loop-page.invariant
    c.requires

pub loop-page-preserved : goal.loop-page-preserved
loop-page-preserved g c =
    page_added g.P.Paged.page c.args.pages.now c.loop-page.page-index c.page-item.result c.loop-page-test.true
    c.page-item.is
    c.tallies.result.now c.tallies.ensures c.args.sums.now.table.rows c.loop-page.sums.table.rows c.loop-page.invariant
    c.add_all.new.sums.table.rows c.add_all.ensures

pub returns : goal.returns
returns g c =
    let all : c.loop-page.page-index ≡ length c.args.pages.now = omega arith in
    c.loop-page.invariant
    ∙ ap (λ count. map (with_tallies (tallies_below (view_at (map g.P.Paged.page c.args.pages.now)) count))
    c.args.sums.now.table.rows) all
