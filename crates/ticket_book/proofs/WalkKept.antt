-- Where a walk stands: indices that move on still stand before the line, and before each later one.
use Rattle.std.proofs.Common.{◌≡◌, ℕ, ◌<◌, ◌≤◌, List, length, take, inl, inr, sym, ap, ◌∙◌, subst, arith}
use Rattle.std.proofs.Common.{get_or-set_same, get_or-set_other}
use Rattle.std.specs.Prelude.{slice_index}
use Rattle.std.proofs.Math.ListN.{length-set}
use Rattle.cfs_model.proofs.Moves.{same_or_not}
use Rattle.replay_model.specs.Noted.{PageView}
use Rattle.replay_model.specs.declared.page.Ticket.{Ticket}
use Rattle.ticket_book.specs.TicketIndices.{AreBelow, PassesTo}
use Rattle.ticket_book.specs.Told.{view_at}
use Rattle.ticket_book.specs.Walk.{AreBehind, StandsAt}
use Rattle.ticket_book.specs.declared.walk.Walk.{Walk}

-- one index moved
pub one_moved : (tickets : PageView → List Ticket) (pages : List PageView) (line cpu : ℕ) (before after : List ℕ)
    → AreBehind tickets pages line before → cpu < length pages
    → PassesTo cpu line (tickets (view_at pages cpu)) before after → AreBehind tickets pages line after
one_moved tickets pages line cpu before after behind within passes =
    let index = passes.index in
    let there : cpu < length before = subst (λ n. cpu < n) (sym behind.count) within in
    let same : slice_index after cpu ≡ index = ap (λ xs. slice_index xs cpu) passes.moved
    ∙ get_or-set_same before cpu index 0 there in
    record {
      count = ap length passes.moved ∙ length-set before cpu index ∙ behind.count;
      below = λ other h. elim (same_or_not other cpu) [
        | inl e ↦ subst (λ c. AreBelow line (take (slice_index after c) (tickets (view_at pages c)))) (sym e)
            (subst (λ n. AreBelow line (take n (tickets (view_at pages cpu)))) (sym same) passes.passed)
        | inr ne ↦ subst (λ n. AreBelow line (take n (tickets (view_at pages other))))
            (sym (ap (λ xs. slice_index xs other) passes.moved ∙ get_or-set_other before cpu other index 0 ne))
            (behind.below other h)
      ];
    }

-- before a line is before each later one
behind_later : (tickets : PageView → List Ticket) (pages : List PageView) (line later : ℕ) (indices : List ℕ)
    → line ≤ later → AreBehind tickets pages line indices → AreBehind tickets pages later indices
behind_later tickets pages line later indices le behind = record {
  count = behind.count;
  below = λ cpu h k d lt. let low = behind.below cpu h k d lt in omega arith;
}

pub stands_later : (pages : List PageView) (line later : ℕ) (walk : Walk) → line ≤ later → StandsAt pages line walk
    → StandsAt pages later walk
stands_later pages line later walk le stands = record {
  faultless = stands.faultless;
  deadline = stands.deadline;
  left = behind_later (λ page. page.left) pages line later walk.left le stands.left;
  came = behind_later (λ page. page.came) pages line later walk.came le stands.came;
}
