use Rattle.replay_laws.proofs.needing.PageNeeds.{pages_tell_least}
use Rattle.replay_laws.proofs.needing.StepNeeds.{passes_from_needs}
use Rattle.replay_laws.proofs.needs.Goals as goal

pub returns-clause-step : goal.returns-clause-step
returns-clause-step c = passes_from_needs

pub returns-clause-pages : goal.returns-clause-pages
returns-clause-pages c = pages_tell_least
