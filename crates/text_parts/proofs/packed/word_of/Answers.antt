use Rattle.std.proofs.Math.Nat.{mod-eq_of_lt}
use Rattle.text_parts.proofs.FrontValues.{number_below}
use Rattle.text_parts.proofs.packed.word_of.Goals as goal

pub returns : goal.returns
returns c = mod-eq_of_lt (number_below c.args.bytes c.fits-bytes.0 c.fits-bytes.1)
