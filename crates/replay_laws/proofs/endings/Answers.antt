use Rattle.replay_laws.proofs.ending.RunEndings.{birth_ends_run, idling_ends_run, tickets_end_run}
use Rattle.replay_laws.proofs.endings.Goals as goal

pub returns-clause-idling : goal.returns-clause-idling
returns-clause-idling c = idling_ends_run

pub returns-clause-birth : goal.returns-clause-birth
returns-clause-birth c = birth_ends_run

pub returns-clause-tickets : goal.returns-clause-tickets
returns-clause-tickets c = tickets_end_run
