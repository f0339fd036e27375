use Rattle.need_laws.proofs.RoseLast.{rises_by_next, stays_by_next}
use Rattle.need_laws.proofs.rises.Goals as goal

pub returns-clause-rises : goal.returns-clause-rises
returns-clause-rises c = rises_by_next

pub returns-clause-stays : goal.returns-clause-stays
returns-clause-stays c = stays_by_next
