use Rattle.cfs_model.proofs.ToldPolicies.{policies_are_told, mover_keeps_policy}
use Rattle.cfs_model.proofs.laws.policies.Goals as goal

pub returns-clause-told : goal.returns-clause-told
returns-clause-told c = policies_are_told

pub returns-clause-moved : goal.returns-clause-moved
returns-clause-moved c = mover_keeps_policy
