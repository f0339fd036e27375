use Rattle.std.proofs.Common.{◌≡◌, ◌<◌, length, get_or, slice_set, take, sym, ap, subst, ◌∙◌}
use Rattle.std.proofs.lemmas.List.{get_or_default}
use Rattle.ticket_book.specs.TicketIndices.{AreBelow}
use Rattle.ticket_book.proofs.TicketsPassed.{ticket_here, passed_to, stops_at}
use Rattle.ticket_book.proofs.ticket_indices.TicketIndices.ticket.Goals as goal

pub returns : goal.returns
returns c =
    let ts = c.args.tickets.now in
    let items = c.self.inside.items.items in
    let index = c.index_past-index.result in
    let bound : c.args.cpu < length items =
    subst (λ xs. c.args.cpu < length xs) (sym c.self.view_is) c.requires.in_bounds in
    let from : c.index.result.now ≡ get_or c.args.self.now c.args.cpu 0 = c.index.ensures
    ∙ get_or_default items c.args.cpu c.index.result.now 0 bound ∙ ap (λ xs. get_or xs c.args.cpu 0) c.self.view_is in
    let before : AreBelow c.args.line (take c.index.result.now ts) =
    subst (λ n. AreBelow c.args.line (take n ts)) (sym from) c.requires.passed in
    let passed = passed_to c.args.line ts c.index.result.now index before c.index_past-index.ensures in
    record {
      found = c.ticket_on.ensures
          ∙ ticket_here c.args.line ts index c.requires.rise passed
          (stops_at c.args.line ts c.index.result.now index c.index_past-index.ensures);
      passes = record {
        index = index;
        moved = ap (λ xs. slice_set xs c.args.cpu index) c.self.view_is;
        passed =
            passed;
      };
    }
