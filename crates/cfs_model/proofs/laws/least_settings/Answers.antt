use Rattle.cfs_model.proofs.MoreGenerous.{run_more}
use Rattle.cfs_model.proofs.LeastSettings.{run_lesser, same_states, one_least, run_from_least, least_of_prefix}
use Rattle.cfs_model.proofs.BadAtAll.{bad_at_all}
use Rattle.cfs_model.proofs.laws.least_settings.Goals as goal

pub returns-clause-more : goal.returns-clause-more
returns-clause-more c = run_more

pub returns-clause-lesser : goal.returns-clause-lesser
returns-clause-lesser c = run_lesser

pub returns-clause-states : goal.returns-clause-states
returns-clause-states c = same_states

pub returns-clause-one : goal.returns-clause-one
returns-clause-one c = one_least

pub returns-clause-exact : goal.returns-clause-exact
returns-clause-exact c = run_from_least

pub returns-clause-prefix : goal.returns-clause-prefix
returns-clause-prefix c = least_of_prefix

pub returns-clause-bad_at_all : goal.returns-clause-bad_at_all
returns-clause-bad_at_all c = bad_at_all
