use Rattle.cfs_model.proofs.IdleExample.{idle_lem}
use Rattle.cfs_model.proofs.examples.idle_example.Goals as goal

pub returns : goal.returns
returns c = idle_lem
