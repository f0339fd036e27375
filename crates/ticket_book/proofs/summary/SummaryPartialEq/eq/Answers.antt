use Rattle.std.proofs.Common.{rules}
use Rattle.std.proofs.lemmas.Bool.Decides.{Decides-at}
use Rattle.ticket_book.specs.SummaryView.{summary_view}
use Rattle.ticket_book.proofs.Same.{is_same_summary_decides}
use Rattle.ticket_book.proofs.summary.SummaryPartialEq.eq.Goals as goal

pub returns-then-self-other-5-clause-exact : goal.returns-then-self-other-5-clause-exact
returns-then-self-other-5-clause-exact c =
    Decides-at _ _ (search rules) (is_same_summary_decides (summary_view c.args.self.now)
    (summary_view c.args.other.now))
