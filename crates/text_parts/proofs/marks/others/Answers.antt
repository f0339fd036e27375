use Rattle.std.proofs.Common.{◌%◌, ◌^◌, ltb, map, replicate, ap, ◌∙◌, arith, w8}
use Rattle.std.proofs.lemmas.Simd.{tops_compared, zip2_splat_left, mask_l-mod}
use Rattle.std.proofs.lemmas.List.{length-map}
use Rattle.std.specs.Simd.Lanes.{mask_l}
use Rattle.text_parts.proofs.marks.others.Goals as goal

pub returns : goal.returns
returns c =
    let digits = c.args.digits in
    let long = c.fits-digits.0 in
    ap (λ ms. mask_l ms % 2 ^ 64) (tops_compared w8 ltb (replicate 32 9) digits ∙ zip2_splat_left ltb 9 32 digits long)
    ∙ mask_l-mod (map (λ y. ltb 9 y) digits) 64 (omega (arith, length-map digits (λ y. ltb 9 y), long))
