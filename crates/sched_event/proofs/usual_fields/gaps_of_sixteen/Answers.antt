use Rattle.std.proofs.Common.{leb, arith, w8}
use Rattle.std.proofs.lemmas.Simd.{bitmask_splat}
use Rattle.sched_event.proofs.usual_fields.gaps_of_sixteen.Goals as goal

pub returns : goal.returns
returns c = bitmask_splat w8 leb c.args.bytes 16 32 c.fits-bytes.0 (omega arith)
