use Rattle.cfs_model.proofs.Prefix.{run_prefix}
use Rattle.cfs_model.proofs.laws.prefixes.Goals as goal

pub returns : goal.returns
returns c = run_prefix
