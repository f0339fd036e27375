use Rattle.part_laws.proofs.stepping.PartForward.{part_steps}
use Rattle.part_laws.proofs.stepping.PartSteps.{machine_steps}
use Rattle.part_laws.proofs.part_steps.Goals as goal

pub returns-clause-part : goal.returns-clause-part
returns-clause-part c = part_steps

pub returns-clause-machine : goal.returns-clause-machine
returns-clause-machine c = machine_steps
