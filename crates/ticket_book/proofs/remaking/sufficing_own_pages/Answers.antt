use Rattle.std.proofs.Common.{◌∙◌, subst, sym}
use Rattle.sched_record.specs.Record.{record_view}
use Rattle.ticket_book.specs.Own.{AreOwn, AreToldOwn}
use Rattle.ticket_book.proofs.Owned.{all_own}
use Rattle.ticket_book.proofs.remaking.sufficing_own_pages.Goals as goal

pub gathered_pages-requires-clause-told : goal.gathered_pages-requires-clause-told
gathered_pages-requires-clause-told c =
    let r = record_view c.args.joined.now in
    let slots = c.into_slots.result.items in
    subst (AreToldOwn c.args.knobs r slots)
    (sym (c.deref.ensures.value ∙ c.in_ok-own.ensures.items_if_clones_equal (λ y is. is)))
    (all_own c.args.knobs r slots _ (subst (AreOwn c.args.knobs r) (sym c.into_slots.ensures) c.requires.own))
