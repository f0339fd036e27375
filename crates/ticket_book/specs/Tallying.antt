-- Tallies that are added to what is known of each task (this project's profile).
use Rattle.std.specs.Prelude.{◌+◌, ◌^◌, ◌<◌, List}
use Rattle.tally_laws.specs.Totals.{total_of}
use Rattle.replay_model.specs.declared.page.Tally.{Tally}

-- a task's sum with what some tallies say of the task
abbrev pub with_tallies : List Tally → Tally → Tally
with_tallies tallies sum = record {
  pid = sum.pid;
  ran = sum.ran + (total_of tallies sum.pid).ran;
  charged = sum.charged + (total_of tallies sum.pid).charged;
  picks = sum.picks + (total_of tallies sum.pid).picks;
}

-- the numbers of a tally are none that it can't hold
pub record FitsTally (tally : Tally) : Type 0 where
  pub ran : tally.ran < 2 ^ 128
  pub charged : tally.charged < 2 ^ 128
  pub picks : tally.picks < 2 ^ 64
