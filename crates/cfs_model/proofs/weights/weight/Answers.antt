use Rattle.cfs_model.proofs.Positive.{weight_at-positive}
use Rattle.cfs_model.proofs.weights.weight.Goals as goal

pub returns-clause-positive : goal.returns-clause-positive
returns-clause-positive c = weight_at-positive c.index_of.result c.index_of.ensures.within
