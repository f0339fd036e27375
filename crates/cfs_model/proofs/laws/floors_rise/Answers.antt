use Rattle.cfs_model.proofs.FloorsRise.{floors_rise}
use Rattle.cfs_model.proofs.laws.floors_rise.Goals as goal

pub returns : goal.returns
returns c = floors_rise
