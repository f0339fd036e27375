use Rattle.std.proofs.Common.{◌+◌, ◌∙◌, length, Some, sym, ap, subst}
use Rattle.std.proofs.lemmas.List.{length-set}
use Rattle.ticket_book.specs.BookView.{book_view}
use Rattle.ticket_book.specs.Own.{AreOwn}
use Rattle.ticket_book.specs.declared.book.Book.{Book}
use Rattle.audit_crew.specs.Filled.{filled}
use Rattle.audit_crew.proofs.Owned.{own_put}
use Rattle.audit_crew.proofs.Pages.{one_page_more}
use Rattle.audit_crew.proofs.shared_book.SharedBook.post.Goals as goal

pub invariant_of-self : goal.invariant_of-self
invariant_of-self g c =
    let slots = book_view c.args.self.now.book in
    let page = c.args.page in
    record {
      slots =
          ap length c.in-Ok.ensures.added ∙ length-set slots page.stream.cpu (Some page) ∙ c.args.self.now.slots;
      own =
          subst (AreOwn _ _) (sym c.in-Ok.ensures.added)
          (own_put _ _ slots page c.args.self.now.own c.requires.own c.in-Ok.ensures.refused);
      counted =
          ap filled c.in-Ok.ensures.added ∙ one_page_more slots page.stream.cpu page c.in-Ok.ensures.refused
          ∙ ap (λ n. n + 1) c.args.self.now.counted ∙ sym c.add.ensures.total;
    }

pub invariant_of-self-in-Err-1 : goal.invariant_of-self-in-Err-1
invariant_of-self-in-Err-1 g c =
    let same = c.in-Err.ensures.unchanged in
    record {
      slots = ap (λ (book : Book). length (book_view book)) same ∙ c.args.self.now.slots;
      own = subst (λ (book : Book). AreOwn _ _ (book_view book)) (sym same) c.args.self.now.own;
      counted = ap (λ (book : Book). filled (book_view book)) same ∙ c.args.self.now.counted;
    }
