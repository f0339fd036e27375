use Rattle.cfs_model.proofs.MovedNiceExample.{moved_nice_lem, away_nice_lem}
use Rattle.cfs_model.proofs.NiceChangeExample.{nice_change_lem, strange_nice_lem}
use Rattle.cfs_model.proofs.examples.nice_example.Goals as goal

pub returns-clause-changes : goal.returns-clause-changes
returns-clause-changes c = nice_change_lem

pub returns-clause-stands : goal.returns-clause-stands
returns-clause-stands c = strange_nice_lem

pub returns-clause-moves : goal.returns-clause-moves
returns-clause-moves c = moved_nice_lem

pub returns-clause-away : goal.returns-clause-away
returns-clause-away c = away_nice_lem
