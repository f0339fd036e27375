use Rattle.cfs_model.proofs.RebirthExample.{idle_birth_lem, rebirth_lem}
use Rattle.cfs_model.proofs.examples.policy_example.Goals as goal

pub returns-clause-born : goal.returns-clause-born
returns-clause-born c = idle_birth_lem

pub returns-clause-reborn : goal.returns-clause-reborn
returns-clause-reborn c = rebirth_lem
