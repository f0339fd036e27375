use Rattle.std.proofs.Common.{not, eqb, arith, w8}
use Rattle.std.proofs.lemmas.Simd.{bitmask_splat}
use Rattle.text_parts.proofs.packed.no_spaces.Goals as goal

pub returns : goal.returns
returns c = bitmask_splat w8 (λ a b. not (eqb a b)) c.args.bytes 8 32 c.fits-bytes.0 (omega arith)
