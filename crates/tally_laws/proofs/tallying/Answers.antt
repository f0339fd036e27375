use Rattle.tally_laws.proofs.TalliesAddedUp.{pages_add_up, pages_tell_summary}
use Rattle.tally_laws.proofs.TalliesKept.{tallies_once}
use Rattle.tally_laws.proofs.TalliesOfTasks.{tallies_of_tasks}
use Rattle.tally_laws.proofs.TallyBounds.{tallies_bounded}
use Rattle.tally_laws.proofs.tallying.Goals as goal

pub returns-clause-totals : goal.returns-clause-totals
returns-clause-totals c = pages_add_up

pub returns-clause-summary : goal.returns-clause-summary
returns-clause-summary c = pages_tell_summary

pub returns-clause-tasks : goal.returns-clause-tasks
returns-clause-tasks c = tallies_of_tasks

pub returns-clause-once : goal.returns-clause-once
returns-clause-once c = tallies_once

pub returns-clause-bounded : goal.returns-clause-bounded
returns-clause-bounded c = tallies_bounded
