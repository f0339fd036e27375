-- Behind the last line feed there is none.
use Rattle.std.proofs.Common.{◌+◌}
use Rattle.text_parts.proofs.WholeLines.{no_feeds}
use Rattle.text_parts.proofs.lines.whole_lines.Goals as goal

pub returns-in-Some-clause-rest : goal.returns-in-Some-clause-rest
returns-in-Some-clause-rest c =
    no_feeds c.args.text.now (c.in-Some.last + 1) (λ i after within. c.in-Some.ensures.0.after i after within)

pub returns-in-None-clause-rest : goal.returns-in-None-clause-rest
returns-in-None-clause-rest c = no_feeds c.args.text.now 0 (λ i after within. c.in-None.ensures i after within)
