use Rattle.std.proofs.Common.{All, length, map, refl, sym, subst}
use Rattle.replay_model.specs.Summary.{tasks_of_run}
use Rattle.tally_laws.specs.Totals.{tallies_below}
use Rattle.cfs_model.specs.Claimed.{Claimed}
use Rattle.ticket_book.specs.Tallying.{FitsTally, with_tallies}
use Rattle.ticket_book.specs.Told.{view_at}
use Rattle.ticket_book.proofs.PagesAdded.{totals_fit}
use Rattle.ticket_book.proofs.Summed.{summary_is_of, tasks_named}
use Rattle.ticket_book.proofs.window_book.WindowBook.summary.Goals as goal

pub summary-requires : goal.summary-requires
summary-requires g c =
    let tallies = tallies_below (view_at (map g.P.Paged.page c.args.pages.now)) (length c.args.pages.now) in
    let tasks = c.requires.0 in
    let so_far = c.requires.1 in
    subst (All (λ sum. FitsTally (with_tallies tallies sum)))
    (sym (tasks_named tasks so_far (map (λ (s : Claimed). s.entry) so_far) refl c.args.self.sums c.requires.2.sums))
    (totals_fit tallies (tasks_of_run tasks so_far) c.requires.3)

pub returns : goal.returns
returns g c = λ tasks so_far of.
    let tallies = tallies_below (view_at (map g.P.Paged.page c.args.pages.now)) (length c.args.pages.now) in
    summary_is_of tasks so_far (map (λ (s : Claimed). s.entry) so_far) refl c.args.self.sums of.sums tallies _
    c.summary.ensures
