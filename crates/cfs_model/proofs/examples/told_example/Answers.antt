use Rattle.cfs_model.proofs.ToldExample.{told_lem, floor_lem}
use Rattle.cfs_model.proofs.examples.told_example.Goals as goal

pub returns-clause-put_back : goal.returns-clause-put_back
returns-clause-put_back c = told_lem

pub returns-clause-floor : goal.returns-clause-floor
returns-clause-floor c = floor_lem
