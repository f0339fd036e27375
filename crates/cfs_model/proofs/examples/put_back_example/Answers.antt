use Rattle.cfs_model.proofs.SwitchExample.{put_back_lem, nice_lem, idle_policy_lem}
use Rattle.cfs_model.proofs.examples.put_back_example.Goals as goal

pub returns-clause-even : goal.returns-clause-even
returns-clause-even c = put_back_lem

pub returns-clause-light : goal.returns-clause-light
returns-clause-light c = nice_lem

pub returns-clause-idle : goal.returns-clause-idle
returns-clause-idle c = idle_policy_lem
