use Rattle.need_laws.proofs.ReachFaults.{reached_is_fault}
use Rattle.need_laws.proofs.reached.Goals as goal

pub returns : goal.returns
returns c = reached_is_fault
