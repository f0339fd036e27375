use Rattle.cfs_model.proofs.ExactCharges.{untold_ignores_drift, untold_has_no_drift, untold_lifts_exactly}
use Rattle.cfs_model.proofs.told_laws.untold.Goals as goal

pub returns-clause-ignores : goal.returns-clause-ignores
returns-clause-ignores c = untold_ignores_drift

pub returns-clause-none : goal.returns-clause-none
returns-clause-none c = untold_has_no_drift

pub returns-clause-exact : goal.returns-clause-exact
returns-clause-exact c = untold_lifts_exactly
