use Rattle.std.proofs.Common.{◌≡◌, ◌*◌, ◌-◌, ◌%◌, ◌^◌, map, take, ap, subst, ◌∙◌}
use Rattle.std.specs.Simd.Lanes.{number_l}
use Rattle.text_parts.specs.Packed.{less_zero, Joins}
use Rattle.text_parts.proofs.FrontValues.{value_in_front}
use Rattle.text_parts.proofs.packed.front_value.Goals as goal

pub returns : goal.returns
returns c =
    let text = c.args.text.now in
    let count = c.args.count in
    let word : c.word_of.result ≡ number_l 256 (map less_zero (take 8 text)) =
    c.word_of.ensures ∙ ap (number_l 256) c.digits_in.ensures in
    value_in_front count text c.joined.result c.requires.long c.requires.some c.requires.few c.requires.digits
    (subst (λ w. Joins (w * 2 ^ (64 - 8 * count) % 18446744073709551616) c.joined.result) word c.joined.ensures)
