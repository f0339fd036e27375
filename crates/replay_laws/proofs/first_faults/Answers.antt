use Rattle.replay_laws.proofs.one_cause.FirstFaults.{fault_is_first_bad, run_has_no_fault, one_first_fault}
use Rattle.replay_laws.proofs.first_faults.Goals as goal

pub returns-clause-first_bad : goal.returns-clause-first_bad
returns-clause-first_bad c = fault_is_first_bad

pub returns-clause-run : goal.returns-clause-run
returns-clause-run c = run_has_no_fault

pub returns-clause-one : goal.returns-clause-one
returns-clause-one c = one_first_fault
