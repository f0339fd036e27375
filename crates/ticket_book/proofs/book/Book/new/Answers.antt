use Rattle.std.proofs.Common.{◌≡◌, None, replicate, subst, sym, ap, ◌∙◌, arith}
use Rattle.ticket_book.specs.Book.{IsBook, no_fault}
use Rattle.ticket_book.proofs.BookSlots.{empty_book}
use Rattle.ticket_book.proofs.book.Book.new.Goals as goal

pub invariant_of-result : goal.invariant_of-result
invariant_of-result c =
    let all : c.loop-cpu._cpu ≡ c.args.cpus = omega arith in
    let slots : c.loop-cpu.slots.items ≡ replicate c.args.cpus None =
    c.loop-cpu.invariant ∙ ap (λ n. replicate n None) all in
    record {
      kept = subst (λ items. IsBook items no_fault) (sym slots)
          (empty_book c.args.cpus c.requires.some c.requires.at_most);
    }
