use Rattle.std.proofs.Common.{◌∷◌, [], ◌∙◌, ap, sym}
use Rattle.std.proofs.lemmas.Option.{get_or_from_slice_get}
use Rattle.ticket_book.specs.Tallying.{with_tallies}
use Rattle.ticket_book.proofs.Adding.{added_nowhere, added_own, added_there}
use Rattle.ticket_book.proofs.task_sums.add.Goals as goal

pub invariant_of-sums : goal.invariant_of-sums
invariant_of-sums c =
    let sums = c.args.sums.now in
    let index = c.in-Some.index in
    let before = c.row_mut.result.now in
    let f = c.index_near.ensures.found index c.in-Some.is in
    record {
      own = added_own sums.table sums.own c.index_near.ensures.apart c.args.tally index before c.add_to.new.sum f.0
          (f.1 before)
          (c.add_to.ensures ∙ ap (with_tallies (c.args.tally ∷ []))
          (sym (get_or_from_slice_get sums.table.rows index before before c.row_mut.ensures.value)));
    }

pub returns-in-Some : goal.returns-in-Some
returns-in-Some c =
    let sums = c.args.sums.now in
    let index = c.in-Some.index in
    let before = c.row_mut.result.now in
    let f = c.index_near.ensures.found index c.in-Some.is in
    added_there sums.table sums.own c.index_near.ensures.apart c.args.tally index before c.add_to.new.sum f.0
    (f.1 before)
    (c.add_to.ensures ∙ ap (with_tallies (c.args.tally ∷ []))
    (sym (get_or_from_slice_get sums.table.rows index before before c.row_mut.ensures.value)))

pub returns-in-None : goal.returns-in-None
returns-in-None c =
    added_nowhere c.args.sums.now.table.rows c.args.tally (c.index_near.ensures.none c.in-None.is)
