use Rattle.std.proofs.Common.{map, sym, ◌∙◌}
use Rattle.ticket_book.specs.Told.{view_at}
use Rattle.ticket_book.proofs.Saying.{unequal_said}
use Rattle.ticket_book.proofs.walk.Walk.shift_fault.Goals as goal

pub returns-then-tickets_differ-clause-said : goal.returns-then-tickets_differ-clause-said
returns-then-tickets_differ-clause-said g c = λ event on.
    let pages = view_at (map g.P.Paged.page c.args.pages.now) in
    unequal_said pages event c.args.line c.args.orig c.args.dest c.args.pid on
    (sym c.failed_at.ensures.fault ∙ c.in_default.is) (sym c.failed_at-2.ensures.fault ∙ c.in_default-failed_at.is)
    c.if-tickets_differ.ensures.differ
