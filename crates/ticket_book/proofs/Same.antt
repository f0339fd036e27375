-- `==` of tallies and of summaries answers whether they are the same.
use Rattle.std.proofs.Common.{◌≡◌, Decides, refl}
use Rattle.std.proofs.lemmas.Bool.Decides.{Decides-eqb, Decides-and, Decides-like}
use Rattle.std.proofs.lemmas.Slice.Eq.{slice_eq-Decides}
use Rattle.replay_model.specs.Summary.{SummaryView}
use Rattle.replay_model.specs.contracts.page.TallyPartialEq.TheImpl as tally_eq
use Rattle.replay_model.specs.declared.page.Tally.{Tally}
use Rattle.ticket_book.specs.Same.{is_same_summary}

tally_decides : (a b : Tally) → Decides ((tally_eq.ghosts).eq a b) (a ≡ b)
tally_decides a b =
    Decides-like _ (λ h i. record { ran = h.0 i; charged = h.1.0 i; picks = h.1.1.0 i; pid = h.1.1.1 i })
    (λ e. (cc, (cc, (cc, cc))))
    (Decides-and _ _ (Decides-eqb a.ran b.ran) (Decides-and _ _ (Decides-eqb a.charged b.charged)
    (Decides-and _ _ (Decides-eqb a.picks b.picks) (Decides-eqb a.pid b.pid))))

-- two summaries say the same where each of what they say is equal
pub is_same_summary_decides : (a b : SummaryView) → Decides (is_same_summary a b) (a ≡ b)
is_same_summary_decides a b =
    Decides-like _ (λ h i. record {
      events = h.0 i;
      switches = h.1.0 i;
      migrations = h.1.1.0 i;
      births = h.1.1.1.0 i;
      deaths = h.1.1.1.1.0 i;
      tallies = h.1.1.1.1.1 i;
    }) (λ e. (cc, (cc, (cc, (cc, (cc, cc))))))
    (Decides-and _ _ (Decides-eqb a.events b.events) (Decides-and _ _ (Decides-eqb a.switches b.switches)
    (Decides-and _ _ (Decides-eqb a.migrations b.migrations) (Decides-and _ _ (Decides-eqb a.births b.births)
    (Decides-and _ _ (Decides-eqb a.deaths b.deaths) (slice_eq-Decides tally_decides a.tallies b.tallies _ refl))))))
