use Rattle.std.proofs.Common.{take}
use Rattle.std.proofs.lemmas.List.{length-take-le}
use Rattle.std.proofs.lemmas.Simd.{zip2_splat}
use Rattle.text_parts.proofs.marks.digits_in.Goals as goal

pub returns : goal.returns
returns c =
    let text = c.args.text.now in
    zip2_splat _ (take 32 text) 32 48 (length-take-le 32 text c.requires)
