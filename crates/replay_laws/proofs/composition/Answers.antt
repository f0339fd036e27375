use Rattle.replay_laws.proofs.composing.PagesCompose.{pages_compose, cuts_compose}
use Rattle.replay_laws.proofs.composition.Goals as goal

pub returns-clause-cuts : goal.returns-clause-cuts
returns-clause-cuts c = cuts_compose

pub returns-clause-pages : goal.returns-clause-pages
returns-clause-pages c = pages_compose
