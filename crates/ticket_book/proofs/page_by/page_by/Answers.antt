use Rattle.std.proofs.Common.{◌≤◌, length, inr, refl, subst, sym}
use Rattle.replay_model.specs.Cut.{StreamView}
use Rattle.cfs_model.specs.Least.{AtMost}
use Rattle.ticket_book.proofs.WithinNeeds.{met, page_within}
use Rattle.ticket_book.proofs.page_by.page_by.Goals as goal
use Rattle.ticket_book.proofs.page_by.page_by.Goals.{then-are_met, else-are_met+in_ok-whole_page}

pub returns : goal.returns
returns c = elim c.if-are_met.branch [
  | then-are_met w ↦
      (let page = c.args.page.now in
      let faultless = c.requires.faultless in
      let all = subst (λ (s : StreamView). length s.steps ≤ page.made) (sym faultless.own.stream) faultless.all in
      rw w.remade-is (record {
        stream = faultless.own.stream;
        knobs_are = refl;
        is_page = page_within c.needs.ensures.step page.stream page.knobs c.args.knobs page.made page.page page.needs
            c.replayed.ensures.needs faultless.none all
            (subst (λ needs. AtMost needs c.args.knobs) c.needs-2.ensures
            (met c.needs-2.result c.args.knobs (c.are_met.ensures.0 w.if-are_met.true)));
        whole = inr faultless.all;
      }))
  | else-are_met+in_ok-whole_page w ↦ rw w.remade-is w.in_ok-whole_page.ensures
]
