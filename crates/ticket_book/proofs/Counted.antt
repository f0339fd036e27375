-- The sums along a window's events: what they do is counted beside, and those who are born with them are named.
use Rattle.std.proofs.Common.{◌≡◌, ℕ, ◌+◌, ◌<◌, List, [], ◌++◌, length, map, take, get_or, sym, ap, ◌∙◌}
use Rattle.std.proofs.lemmas.Grind.{flat_map-append}
use Rattle.std.proofs.lemmas.List.{length-append}
use Rattle.cfs_model.specs.declared.act.Entry.{Entry}
use Rattle.cfs_model.specs.declared.task.Task.{Task}
use Rattle.replay_model.specs.Summary.{born_by}
use Rattle.ticket_book.specs.EventCounts.{counts_of, with_event}
use Rattle.ticket_book.specs.Naming.{births_in, with_named}
use Rattle.ticket_book.specs.RunSums.{AreSumsOf}
use Rattle.ticket_book.specs.declared.event_counts.EventCounts.{EventCounts}
use Rattle.ticket_book.specs.declared.run_sums.RunSums.{RunSums}
use Rattle.ticket_book.proofs.Counting.{count_more}
use Rattle.ticket_book.proofs.Naming.{births_more, both_named}

-- the counts of the first events of a window, and the sums behind them
pub record HasCounted (events : List Entry) (before : RunSums) (i : ℕ) (counts : EventCounts) (sums : RunSums) : Type 0
  where
    pub events_before : sums.events ≡ before.events
    pub counts_before : sums.counts ≡ before.counts
    pub counted : counts ≡ counts_of (take i events)
    pub named : sums.tallies.table.rows ≡ with_named (births_in (take i events)) before.tallies.table.rows

-- one event more
pub one_counted : (events : List Entry) (before : RunSums) (i : ℕ) (event : Entry) → i < length events
    → event ≡ get_or events i event → (counts more : EventCounts) (sums later : RunSums)
    → HasCounted events before i counts sums → more ≡ with_event event counts → later.events ≡ sums.events
    → later.counts ≡ sums.counts
    → later.tallies.table.rows ≡ with_named (born_by event.act) sums.tallies.table.rows
    → HasCounted events before (i + 1) more later
one_counted events before i event lt is counts more sums later has with same_events same_counts named = record {
  events_before = same_events ∙ has.events_before;
  counts_before = same_counts ∙ has.counts_before;
  counted = with ∙ ap (with_event event) has.counted ∙ count_more events i event lt is;
  named = both_named (births_in (take i events)) (born_by event.act) before.tallies.table.rows sums.tallies.table.rows
      later.tallies.table.rows has.named named
      ∙ ap (λ pids. with_named pids before.tallies.table.rows) (births_more events i event lt is);
}

-- the sums of what came before and of a whole window
pub all_counted : (tasks : List Task) (come events : List Entry) (before after : RunSums)
    → AreSumsOf tasks come before → after.events ≡ before.events + length events
    → after.counts ≡ counts_of (come ++ events)
    → after.tallies.table.rows ≡ with_named (births_in events) before.tallies.table.rows
    → AreSumsOf tasks (come ++ events) after
all_counted tasks come events before after of many counts named = record {
  count = many ∙ ap (λ n. n + length events) of.count ∙ sym (length-append come events);
  counts = counts;
  named = both_named (births_in come) (births_in events) (with_named (map (λ (task : Task). task.pid) tasks) [])
      before.tallies.table.rows after.tallies.table.rows of.named named
      ∙ ap (λ pids. with_named pids (with_named (map (λ (task : Task). task.pid) tasks) []))
      (sym (flat_map-append (λ (event : Entry). born_by event.act) come events));
}
