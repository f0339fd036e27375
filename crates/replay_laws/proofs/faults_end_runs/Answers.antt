use Rattle.replay_laws.proofs.ending.RunEnds.{fault_ends_run}
use Rattle.replay_laws.proofs.faults_end_runs.Goals as goal

pub returns : goal.returns
returns c = fault_ends_run
