use Rattle.window_laws.proofs.InPrefix.{window_passes, window_tells_fault}
use Rattle.window_laws.proofs.Stays.{fault_stays}
use Rattle.window_laws.proofs.windows.Goals as goal

pub returns-clause-passes : goal.returns-clause-passes
returns-clause-passes c = window_passes

pub returns-clause-fault : goal.returns-clause-fault
returns-clause-fault c = window_tells_fault

pub returns-clause-stays : goal.returns-clause-stays
returns-clause-stays c = fault_stays
