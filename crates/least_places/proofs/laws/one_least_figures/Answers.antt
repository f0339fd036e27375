use Rattle.least_places.proofs.OnePlace.{one_least_figures}
use Rattle.least_places.proofs.laws.one_least_figures.Goals as goal

pub returns : goal.returns
returns c = one_least_figures c.one_least_answer.ensures c.first_faults.ensures.one c.prefixes.ensures
