use Rattle.std.proofs.Common.{◌*◌, Some, subst, ap, ◌∙◌, sym, arith}
use Rattle.std.proofs.lemmas.List.{take_rest}
use Rattle.text_parts.specs.Packed.{BeginsWithDigits}
use Rattle.text_parts.proofs.Fractions.{micro_below, micro_fraction}
use Rattle.text_parts.proofs.time.microseconds_at.Goals as goal

pub overflow_mul-result : goal.overflow_mul-result
overflow_mul-result c =
    let fraction = c.in_ok-fraction.fraction.now in
    let value = c.eight_at-digits.result.1 in
    let six : BeginsWithDigits fraction 6 value =
    subst (λ n. BeginsWithDigits fraction n value) c.if-digits-ne6.false c.eight_at-digits.ensures in
    record { fits = omega (arith, micro_below fraction value c.if-fraction-lt-TOGETHER.false six) }

pub returns-clause-value : goal.returns-clause-value
returns-clause-value c =
    let fraction = c.in_ok-fraction.fraction.now in
    let value = c.eight_at-digits.result.1 in
    let six : BeginsWithDigits fraction 6 value =
    subst (λ n. BeginsWithDigits fraction n value) c.if-digits-ne6.false c.eight_at-digits.ensures in
    micro_fraction c.args.text.now fraction value c.in_ok-fraction.ensures c.if-fraction-lt-TOGETHER.false six
    ∙ ap (λ rest. Some (value * 1000, rest)) (sym (take_rest fraction 6))

pub returns-clause-below : goal.returns-clause-below
returns-clause-below c =
    let fraction = c.in_ok-fraction.fraction.now in
    let value = c.eight_at-digits.result.1 in
    let six : BeginsWithDigits fraction 6 value =
    subst (λ n. BeginsWithDigits fraction n value) c.if-digits-ne6.false c.eight_at-digits.ensures in
    omega (arith, micro_below fraction value c.if-fraction-lt-TOGETHER.false six)
