use Rattle.companion_file.proofs.BothVersions.{same_in_third}
use Rattle.companion_file.proofs.laws.same_without_charges.Goals as goal

pub returns : goal.returns
returns c = same_in_third
