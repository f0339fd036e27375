use Rattle.text_parts.proofs.LongFronts.{short_front}
use Rattle.text_parts.proofs.packed.digits_at.Goals as goal

pub returns-then-digits-lt-TOGETHER-clause-count : goal.returns-then-digits-lt-TOGETHER-clause-count
returns-then-digits-lt-TOGETHER-clause-count c =
    (short_front c.args.text.now c.eight_at-digits.result.0 c.eight_at-digits.result.1 c.if-text-lt-TOGETHER.false
    c.if-digits-lt-TOGETHER.true c.eight_at-digits.ensures).count_is

pub returns-then-digits-lt-TOGETHER-clause-value : goal.returns-then-digits-lt-TOGETHER-clause-value
returns-then-digits-lt-TOGETHER-clause-value c =
    (short_front c.args.text.now c.eight_at-digits.result.0 c.eight_at-digits.result.1 c.if-text-lt-TOGETHER.false
    c.if-digits-lt-TOGETHER.true c.eight_at-digits.ensures).value_is
