use Rattle.cfs_model.proofs.BirthExample.{idle_switch_lem}
use Rattle.cfs_model.proofs.SwitchExample.{pick_lem}
use Rattle.cfs_model.proofs.examples.pick_example.Goals as goal

pub returns-clause-within : goal.returns-clause-within
returns-clause-within c = pick_lem

pub returns-clause-idle : goal.returns-clause-idle
returns-clause-idle c = idle_switch_lem
