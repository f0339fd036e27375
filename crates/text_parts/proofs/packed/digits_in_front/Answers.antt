use Rattle.std.proofs.Common.{ℕ, ◌<◌, get_or}
use Rattle.text_parts.specs.Numerals.{is_digit}
use Rattle.text_parts.specs.Packed.{less_zero, is_above_nine}
use Rattle.text_parts.proofs.FrontMasks.{digit_from, other_from, mask_of}
use Rattle.text_parts.proofs.FrontRuns.{front_run}
use Rattle.text_parts.proofs.packed.digits_in_front.Goals as goal

pub returns : goal.returns
returns c =
    let text = c.args.text.now in
    let mask = c.others.result in
    let fits : (k : ℕ) → get_or text k 0 < 256 = λ k. (c.type_inv.text k).fits in
    front_run is_digit (λ byte. is_above_nine (less_zero byte)) text c.requires
    (λ k. digit_from (get_or text k 0) (fits k)) (λ k. other_from (get_or text k 0)) mask c.first_set.result
    (mask_of text c.digits_in.result mask c.digits_in.ensures c.others.ensures) c.first_set.ensures
