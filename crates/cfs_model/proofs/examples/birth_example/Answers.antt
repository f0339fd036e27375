use Rattle.cfs_model.proofs.BirthExample.{birth_lem}
use Rattle.cfs_model.proofs.examples.birth_example.Goals as goal

pub returns : goal.returns
returns c = birth_lem
