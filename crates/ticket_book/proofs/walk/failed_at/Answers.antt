use Rattle.std.proofs.Common.{sym, ap, ◌∙◌}
use Rattle.ticket_book.specs.Walk.{failed_on}
use Rattle.ticket_book.proofs.Views.{view_here}
use Rattle.ticket_book.proofs.walk.failed_at.Goals as goal

pub returns-clause-fault : goal.returns-clause-fault
returns-clause-fault g c =
    c.failed_by.ensures.fault ∙ ap (failed_on c.args.cpu c.args.line) (c.fault.ensures
    ∙ ap (λ view. view.fault)
    (sym (view_here g.P.Paged.page c.args.pages.now c.args.cpu c.index-pages-cpu.result c.requires
    c.index-pages-cpu.is)))
