use Rattle.least_places.proofs.OnePlace.{fronts_need_less}
use Rattle.least_places.proofs.laws.fronts_need_less.Goals as goal

pub returns : goal.returns
returns c = fronts_need_less c.prefixes.ensures
