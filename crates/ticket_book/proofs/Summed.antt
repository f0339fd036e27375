-- The summary of a run by the tallies on its pages.
use Rattle.std.proofs.Common.{◌≡◌, ℕ, List, length, map, sym, ap, ◌∙◌}
use Rattle.std.proofs.lemmas.List.{length-map}
use Rattle.cfs_model.specs.Claimed.{Claimed}
use Rattle.cfs_model.specs.declared.act.Act.{Act}
use Rattle.cfs_model.specs.declared.act.Entry.{Entry}
use Rattle.cfs_model.specs.declared.task.Task.{Task}
use Rattle.replay_model.specs.Noted.{new_tally}
use Rattle.replay_model.specs.Summary.{SummaryView, is_birth, is_death, is_migration, is_switch, tasks_of_run}
use Rattle.replay_model.specs.Summary.{how_many}
use Rattle.std.specs.Prelude.{Bool, count_by}
use Rattle.tally_laws.specs.Totals.{summary_by}
use Rattle.replay_model.specs.declared.page.Tally.{Tally}
use Rattle.ticket_book.specs.RunSums.{AreSumsOf}
use Rattle.ticket_book.specs.Tallying.{with_tallies}
use Rattle.ticket_book.specs.declared.event_counts.EventCounts.{EventCounts}
use Rattle.ticket_book.specs.declared.run_sums.RunSums.{RunSums}
use Rattle.ticket_book.proofs.Counting.{count_said}
use Rattle.ticket_book.proofs.Naming.{all_named}
use Rattle.ticket_book.proofs.PagesAdded.{totals_added}

same_summary : (a b : SummaryView) → a.events ≡ b.events → a.switches ≡ b.switches → a.migrations ≡ b.migrations
    → a.births ≡ b.births → a.deaths ≡ b.deaths → a.tallies ≡ b.tallies → a ≡ b
same_summary a b events switches migrations births deaths tallies = λ i. record {
  events = events i;
  switches = switches i;
  migrations = migrations i;
  births = births i;
  deaths = deaths i;
  tallies = tallies i;
}

module _ (tasks : List Task) (said : List Claimed) (events : List Entry) (are : map (λ event. event.entry) said ≡
    events)
    (sums : RunSums) (of : AreSumsOf tasks events sums) where
  -- the sums of a run's tasks, before any tally is added
  pub tasks_named : sums.tallies.table.rows ≡ map new_tally (tasks_of_run tasks said)
  tasks_named = all_named tasks said events sums.tallies.table.rows are of.named

  -- the summary of counts and sums
  pub summary_is_of : (tallies : List Tally) (summary : SummaryView)
      → summary ≡ record {
        events = sums.events;
        switches = sums.counts.switches;
        migrations = sums.counts.migrations;
        births = sums.counts.births;
        deaths = sums.counts.deaths;
        tallies = map (with_tallies tallies) sums.tallies.table.rows;
      }
      → summary ≡ summary_by tallies tasks said
  summary_is_of tallies summary is =
      is ∙ same_summary _ (summary_by tallies tasks said)
      (of.count ∙ ap length (sym are) ∙ length-map said (λ (s : Claimed). s.entry))
      (counted is_switch (λ c. c.switches) (ap (λ (c : EventCounts). c.switches) of.counts))
      (counted is_migration (λ c. c.migrations) (ap (λ (c : EventCounts). c.migrations) of.counts))
      (counted is_birth (λ c. c.births) (ap (λ (c : EventCounts). c.births) of.counts))
      (counted is_death (λ c. c.deaths) (ap (λ (c : EventCounts). c.deaths) of.counts))
      (ap (map (with_tallies tallies)) tasks_named ∙ totals_added tallies (tasks_of_run tasks said))
    where
      counted : (does : Act → Bool) (of : EventCounts → ℕ)
          → of sums.counts ≡ count_by (λ (e : Entry). does e.act) events → of sums.counts ≡ how_many does said
      counted does of is =
          is ∙ ap (λ es. count_by (λ (e : Entry). does e.act) es) (sym are) ∙ count_said does said
