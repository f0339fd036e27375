use Rattle.std.proofs.Common.{map, take, ap, ◌∙◌, arith}
use Rattle.std.specs.Simd.Lanes.{mask_l}
use Rattle.std.proofs.lemmas.Simd.{map-map}
use Rattle.text_parts.specs.Packed.{less_zero, is_above_nine}
use Rattle.text_parts.proofs.marks.marks_of.Goals as goal

pub returns : goal.returns
returns c = record {
  count = 32;
  few = omega arith;
  within = c.requires;
  bits = c.others.ensures ∙ ap (λ l. mask_l (map is_above_nine l)) c.digits_in.ensures
      ∙ ap mask_l (map-map is_above_nine less_zero (take 32 c.args.text.now));
}
