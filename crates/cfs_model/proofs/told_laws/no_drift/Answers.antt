use Rattle.cfs_model.proofs.ExactCharges.{no_drift_is_exact}
use Rattle.cfs_model.proofs.told_laws.no_drift.Goals as goal

pub returns : goal.returns
returns c = no_drift_is_exact
