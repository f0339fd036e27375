use Rattle.std.proofs.Common.{◌≡◌, ◌<◌, ◌^◌, length, take, min, sym, ap, subst, ◌∙◌, arith}
use Rattle.std.specs.List.{take_while}
use Rattle.text_parts.specs.Numerals.{is_digit, value_of, many}
use Rattle.text_parts.proofs.Runs.{run_passes, length_front}
use Rattle.text_parts.proofs.Times.{value_below}
use Rattle.text_parts.proofs.numerals.many_digits.Goals as goal

pub returns-clause-below : goal.returns-clause-below
returns-clause-below c =
    let text = c.args.text.now in
    let front = take_while is_digit text in
    let count = c.digits_in-digits.ensures.count in
    let below : value_of front < 10 ^ length front = value_below front (run_passes is_digit text) in
    let value : c.number_of.result ≡ min (value_of front) many = c.number_of.ensures
    ∙ ap (λ n. min (value_of (take n text)) many) count in
    subst (λ n. c.number_of.result < 10 ^ n) (length_front is_digit text ∙ sym count) (omega arith)
