use Rattle.need_laws.proofs.WithinRuns.{front_within}
use Rattle.need_laws.proofs.fronts.Goals as goal

pub returns : goal.returns
returns c = front_within
