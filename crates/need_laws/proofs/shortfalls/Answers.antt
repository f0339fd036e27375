use Rattle.need_laws.proofs.ShortFaults.{slack_is_fault, step_is_fault}
use Rattle.need_laws.proofs.shortfalls.Goals as goal

pub returns-clause-step : goal.returns-clause-step
returns-clause-step c = step_is_fault

pub returns-clause-slack : goal.returns-clause-slack
returns-clause-slack c = slack_is_fault
