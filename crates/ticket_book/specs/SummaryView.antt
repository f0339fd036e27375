-- A summary, as contracts see it (this project's profile).
pub use Rattle.replay_model.specs.Summary.{SummaryView}
use Rattle.ticket_book.specs.declared.summary.Summary.{Summary}

-- the summary, without where its tallies lie in memory
abbrev pub summary_view : Summary → SummaryView
summary_view summary = record {
  events = summary.events;
  switches = summary.switches;
  migrations = summary.migrations;
  births = summary.births;
  deaths = summary.deaths;
  tallies = summary.tallies;
}
