use Rattle.std.proofs.Common.{◌≡◌, ◌∙◌, sym, ap, subst, set, Some, min}
use Rattle.ticket_book.specs.Book.{IsBook, line_of_fault}
use Rattle.replay_model.specs.Cut.{StreamView}
use Rattle.ticket_book.proofs.BookSlots.{book_put, room}
use Rattle.ticket_book.proofs.book.Book.post.Goals as goal

pub invariant_of-self : goal.invariant_of-self
invariant_of-self c =
    let slots = c.args.self.now.slots.items in
    let cpu = c.cpu-cpu.result in
    let page = c.args.page in
    let line : c.min-self.result ≡ min c.args.self.now.least (line_of_fault page.page.fault) =
    c.min-self.ensures ∙ ap (min c.args.self.now.least) (c.line_of_fault.ensures ∙ ap line_of_fault c.fault.ensures) in
    let own = sym (c.cpu-cpu.ensures ∙ ap (λ (s : StreamView). s.cpu) c.stream.ensures) in
    record {
      kept = subst (IsBook (set slots cpu (Some page))) (sym line)
          (book_put slots c.args.self.now.least cpu page c.args.self.now.kept
          (room slots cpu c.in_default.ensures) own);
    }
