use Rattle.cfs_model.proofs.DriftSums.{drifts_are_within, drifts_begin_anew, drift_adds_up, sums_are_within}
use Rattle.cfs_model.proofs.told_laws.drifts.Goals as goal

pub returns-clause-within : goal.returns-clause-within
returns-clause-within c = drifts_are_within

pub returns-clause-anew : goal.returns-clause-anew
returns-clause-anew c = drifts_begin_anew

pub returns-clause-sum : goal.returns-clause-sum
returns-clause-sum c = drift_adds_up

pub returns-clause-sums : goal.returns-clause-sums
returns-clause-sums c = sums_are_within
