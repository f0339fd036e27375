use Rattle.cfs_model.proofs.WakeExample.{wake_lem}
use Rattle.cfs_model.proofs.examples.wake_example.Goals as goal

pub returns : goal.returns
returns c = wake_lem
