use Rattle.std.proofs.Common.{refl}
use Rattle.companion_maker.specs.Unguessed.{plain}
use Rattle.companion_maker.proofs.plain.plain_bytes.Goals as goal

pub returns : goal.returns
unfolding plain
returns c = refl
