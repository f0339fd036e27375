use Rattle.need_laws.proofs.IdleFaults.{idling_is_fault}
use Rattle.need_laws.proofs.idling.Goals as goal

pub returns : goal.returns
returns c = idling_is_fault
