use Rattle.replay_laws.proofs.telling.FrontRun.{pages_tell_run, silent_done}
use Rattle.replay_laws.proofs.telling.PagesSuffice.{pages_tell_fault}
use Rattle.replay_laws.proofs.closing.Goals as goal

pub returns-clause-run : goal.returns-clause-run
returns-clause-run c = pages_tell_run

pub returns-clause-fault : goal.returns-clause-fault
returns-clause-fault c = pages_tell_fault

pub returns-clause-done : goal.returns-clause-done
returns-clause-done c = silent_done
