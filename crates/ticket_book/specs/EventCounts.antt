-- How many of some events do what (this project's profile).
use Rattle.std.specs.Prelude.{ℕ, ◌+◌, ◌^◌, ◌<◌, if◌then◌else◌, Bool, List, count_by}
use Rattle.cfs_model.specs.declared.act.Entry.{Entry}
use Rattle.replay_model.specs.Summary.{is_birth, is_death, is_migration, is_switch}
use Rattle.ticket_book.specs.declared.event_counts.EventCounts.{EventCounts}

-- a count with one more, where it is to be counted
abbrev pub with_one : Bool → ℕ → ℕ
with_one counts count = count + (if counts then 1 else 0)

-- the counts with one event more
abbrev pub with_event : Entry → EventCounts → EventCounts
with_event event counts = record {
  switches = with_one (is_switch event.act) counts.switches;
  migrations = with_one (is_migration event.act) counts.migrations;
  births = with_one (is_birth event.act) counts.births;
  deaths = with_one (is_death event.act) counts.deaths;
}

-- the counts of some events
abbrev pub counts_of : List Entry → EventCounts
counts_of events = record {
  switches = count_by (λ event. is_switch event.act) events;
  migrations = count_by (λ event. is_migration event.act) events;
  births = count_by (λ event. is_birth event.act) events;
  deaths = count_by (λ event. is_death event.act) events;
}

-- each is below a bound
pub record AreCountsBelow (bound : ℕ) (counts : EventCounts) : Type 0 where
  pub switches : counts.switches < bound
  pub migrations : counts.migrations < bound
  pub births : counts.births < bound
  pub deaths : counts.deaths < bound

-- the counts of some events and of more
abbrev pub plus_counts : EventCounts → EventCounts → EventCounts
plus_counts counts more = record {
  switches = counts.switches + more.switches;
  migrations = counts.migrations + more.migrations;
  births = counts.births + more.births;
  deaths = counts.deaths + more.deaths;
}

-- no sum is too great
pub record Fit (counts more : EventCounts) : Type 0 where
  pub switches : counts.switches + more.switches < 2 ^ 64
  pub migrations : counts.migrations + more.migrations < 2 ^ 64
  pub births : counts.births + more.births < 2 ^ 64
  pub deaths : counts.deaths + more.deaths < 2 ^ 64
