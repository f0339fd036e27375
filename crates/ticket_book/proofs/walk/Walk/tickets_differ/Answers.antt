use Rattle.std.proofs.Common.{◌≡◌, ◌≢◌, ◌<◌, ◌≤◌, ℕ, List, length, map, take, sym, ap, subst, ◌∙◌, arith}
use Rattle.std.proofs.lemmas.List.{length-map}
use Rattle.replay_model.specs.Noted.{PageView}
use Rattle.std.specs.Prelude.{slice_index}
use Rattle.std.specs.List.{AllPairs}
use Rattle.std.specs.Bool.{OnFalse, OnTrue}
use Rattle.replay_model.specs.Tickets.{ticket_at}
use Rattle.replay_model.specs.declared.page.Ticket.{Ticket}
use Rattle.ticket_book.specs.TicketIndices.{AreBelow, PassesTo}
use Rattle.ticket_book.specs.Told.{view_at}
use Rattle.ticket_book.proofs.WalkKept.{one_moved}
use Rattle.ticket_book.proofs.Views.{view_here}
use Rattle.ticket_book.proofs.walk.Walk.tickets_differ.Goals as goal

within : {P : Type 0} (page_of : P → PageView) (pages : List P) (cpu : ℕ) → cpu < length pages
    → cpu < length (map page_of pages)
within page_of pages cpu h = let n = length-map pages page_of in omega (arith, n)

pub ticket-leaves-requires-clause-in_bounds : goal.ticket-leaves-requires-clause-in_bounds
ticket-leaves-requires-clause-in_bounds g c =
    let n = c.requires.stands.left.count in
    let m = within g.P.Paged.page c.args.pages.now c.args.orig c.requires.orig in omega (arith, n, m)

pub ticket-comes-requires-clause-in_bounds : goal.ticket-comes-requires-clause-in_bounds
ticket-comes-requires-clause-in_bounds g c =
    let n = c.requires.stands.came.count in
    let m = within g.P.Paged.page c.args.pages.now c.args.dest c.requires.dest in omega (arith, n, m)

-- the tickets that are looked at are those of the two pages
pub ticket-leaves-requires-clause-rise : goal.ticket-leaves-requires-clause-rise
ticket-leaves-requires-clause-rise g c =
    let here = c.left-left.ensures ∙ ap (λ view. view.left)
    (sym (view_here g.P.Paged.page c.args.pages.now c.args.orig c.index-pages-orig.result c.requires.orig
    c.index-pages-orig.is)) in
    subst (AllPairs (λ (t u : Ticket). t.line ≤ u.line)) (sym here) (c.requires.rise.left c.args.orig)

pub ticket-leaves-requires-clause-passed : goal.ticket-leaves-requires-clause-passed
ticket-leaves-requires-clause-passed g c =
    let here = c.left-left.ensures ∙ ap (λ view. view.left)
    (sym (view_here g.P.Paged.page c.args.pages.now c.args.orig c.index-pages-orig.result c.requires.orig
    c.index-pages-orig.is)) in
    subst (λ ts. AreBelow c.args.line (take (slice_index c.args.self.now.left c.args.orig) ts)) (sym here)
    (c.requires.stands.left.below c.args.orig (within g.P.Paged.page c.args.pages.now c.args.orig c.requires.orig))

pub ticket-comes-requires-clause-rise : goal.ticket-comes-requires-clause-rise
ticket-comes-requires-clause-rise g c =
    let here = c.came-came.ensures ∙ ap (λ view. view.came)
    (sym (view_here g.P.Paged.page c.args.pages.now c.args.dest c.index-pages-dest.result c.requires.dest
    c.index-pages-dest.is)) in
    subst (AllPairs (λ (t u : Ticket). t.line ≤ u.line)) (sym here) (c.requires.rise.came c.args.dest)

pub ticket-comes-requires-clause-passed : goal.ticket-comes-requires-clause-passed
ticket-comes-requires-clause-passed g c =
    let here = c.came-came.ensures ∙ ap (λ view. view.came)
    (sym (view_here g.P.Paged.page c.args.pages.now c.args.dest c.index-pages-dest.result c.requires.dest
    c.index-pages-dest.is)) in
    subst (λ ts. AreBelow c.args.line (take (slice_index c.args.self.now.came c.args.dest) ts)) (sym here)
    (c.requires.stands.came.below c.args.dest (within g.P.Paged.page c.args.pages.now c.args.dest c.requires.dest))

pub returns-clause-differ : goal.returns-clause-differ
returns-clause-differ g c =
    let left_here = c.left-left.ensures ∙ ap (λ view. view.left)
    (sym (view_here g.P.Paged.page c.args.pages.now c.args.orig c.index-pages-orig.result c.requires.orig
    c.index-pages-orig.is)) in
    let came_here = c.came-came.ensures ∙ ap (λ view. view.came)
    (sym (view_here g.P.Paged.page c.args.pages.now c.args.dest c.index-pages-dest.result c.requires.dest
    c.index-pages-dest.is)) in
    let leaves = c.ticket-leaves.ensures.found ∙ ap (ticket_at c.args.line) left_here in
    let comes = c.ticket-comes.ensures.found ∙ ap (ticket_at c.args.line) came_here in
    subst (λ x. OnTrue c.differ.result (x ≢ ticket_at c.args.line (view_at (map g.P.Paged.page c.args.pages.now)
    c.args.dest).came)) leaves
    (subst (λ y. OnTrue c.differ.result (c.ticket-leaves.result ≢ y)) comes c.differ.ensures.differ)

pub returns-clause-same : goal.returns-clause-same
returns-clause-same g c =
    let left_here = c.left-left.ensures ∙ ap (λ view. view.left)
    (sym (view_here g.P.Paged.page c.args.pages.now c.args.orig c.index-pages-orig.result c.requires.orig
    c.index-pages-orig.is)) in
    let came_here = c.came-came.ensures ∙ ap (λ view. view.came)
    (sym (view_here g.P.Paged.page c.args.pages.now c.args.dest c.index-pages-dest.result c.requires.dest
    c.index-pages-dest.is)) in
    let leaves = c.ticket-leaves.ensures.found ∙ ap (ticket_at c.args.line) left_here in
    let comes = c.ticket-comes.ensures.found ∙ ap (ticket_at c.args.line) came_here in
    subst (λ x. OnFalse c.differ.result (x ≡ ticket_at c.args.line (view_at (map g.P.Paged.page c.args.pages.now)
    c.args.dest).came)) leaves
    (subst (λ y. OnFalse c.differ.result (c.ticket-leaves.result ≡ y)) comes c.differ.ensures.same)

pub returns-clause-stands : goal.returns-clause-stands
returns-clause-stands g c =
    let left_here = c.left-left.ensures ∙ ap (λ view. view.left)
    (sym (view_here g.P.Paged.page c.args.pages.now c.args.orig c.index-pages-orig.result c.requires.orig
    c.index-pages-orig.is)) in
    let came_here = c.came-came.ensures ∙ ap (λ view. view.came)
    (sym (view_here g.P.Paged.page c.args.pages.now c.args.dest c.index-pages-dest.result c.requires.dest
    c.index-pages-dest.is)) in
    record {
      faultless = c.requires.stands.faultless;
      deadline = c.requires.stands.deadline;
      left = one_moved (λ page. page.left) (map g.P.Paged.page c.args.pages.now) c.args.line c.args.orig
          c.args.self.now.left
          c.ticket-leaves.new.self
          c.requires.stands.left (within g.P.Paged.page c.args.pages.now c.args.orig c.requires.orig)
          (subst (λ ts. PassesTo c.args.orig c.args.line ts c.args.self.now.left c.ticket-leaves.new.self) left_here
          c.ticket-leaves.ensures.passes);
      came = one_moved (λ page. page.came) (map g.P.Paged.page c.args.pages.now) c.args.line c.args.dest
          c.args.self.now.came
          c.ticket-comes.new.self
          c.requires.stands.came (within g.P.Paged.page c.args.pages.now c.args.dest c.requires.dest)
          (subst (λ ts. PassesTo c.args.dest c.args.line ts c.args.self.now.came c.ticket-comes.new.self) came_here
          c.ticket-comes.ensures.passes);
    }
