-- `==` of summaries (this project's profile).
use Rattle.std.specs.Prelude.{◌==◌, Bool, ◌&&◌}
use Rattle.std.specs.Cmp.{IsEquivalence}
use Rattle.std.specs.Cmp.Lexicographic.{pointwise}
use Rattle.std.proofs.lemmas.Cmp.{nat_eq_equiv, on_equiv, and_equiv, lists_equiv}
use Rattle.replay_model.specs.Summary.{SummaryView}
use Rattle.replay_model.specs.contracts.page.TallyEq.TheImpl.Laws as tally_law
use Rattle.replay_model.specs.contracts.page.TallyPartialEq.TheImpl as tally

-- each of what a summary says is equal in both
abbrev pub is_same_summary : SummaryView → SummaryView → Bool
is_same_summary a b =
    (a.events == b.events) && ((a.switches == b.switches) && ((a.migrations == b.migrations) && ((a.births == b.births)
    && ((a.deaths == b.deaths) && pointwise (tally.ghosts).eq a.tallies b.tallies))))

-- so it is an equivalence
pub is_same_summary_equiv : IsEquivalence is_same_summary
is_same_summary_equiv =
    and_equiv (on_equiv (λ (s : SummaryView). s.events) nat_eq_equiv)
    (and_equiv (on_equiv (λ (s : SummaryView). s.switches) nat_eq_equiv)
    (and_equiv (on_equiv (λ (s : SummaryView). s.migrations) nat_eq_equiv)
    (and_equiv (on_equiv (λ (s : SummaryView). s.births) nat_eq_equiv)
    (and_equiv (on_equiv (λ (s : SummaryView). s.deaths) nat_eq_equiv)
    (on_equiv (λ (s : SummaryView). s.tallies) (lists_equiv tally_law.laws-law))))))
