use Rattle.companion_file.proofs.BothVersions.{same_in_both}
use Rattle.companion_file.proofs.laws.same_in_both_versions.Goals as goal

pub returns : goal.returns
returns c = same_in_both
