use Rattle.std.proofs.Common.{sym, arith}
use Rattle.std.proofs.lemmas.List.Sums.{prefix_len_is}
use Rattle.sched_event.specs.Usual.{is_plain}
use Rattle.sched_event.proofs.usual_fields.plain_count.Goals as goal

pub returns-then-count-lt-TOGETHER-clause-count : goal.returns-then-count-lt-TOGETHER-clause-count
returns-then-count-lt-TOGETHER-clause-count c =
    let found = c.plain_in_front-count.ensures in
    sym (prefix_len_is is_plain c.args.text.now c.plain_in_front-count.result 0
    (omega (arith, c.if-text-ge-TOGETHER.true, found.few)) found.passed
    (λ lt. found.stops (omega (arith, c.if-count-lt-TOGETHER.true))))
