use Rattle.std.proofs.Common.{arith}
use Rattle.companion_file.proofs.HeadLength.{whole_before}
use Rattle.companion_file.proofs.reading_wide.head_length.Goals as goal

pub returns-in-Some-clause-whole : goal.returns-in-Some-clause-whole
returns-in-Some-clause-whole c = whole_before c.args.text.now c.in-Some.feed c.in-Some.ensures.1

pub returns-in-Some-clause-before : goal.returns-in-Some-clause-before
returns-in-Some-clause-before c =
    λ place below begins. c.in-Some.ensures.0.before place (omega arith) (omega arith) begins

pub returns-in-None-clause-before : goal.returns-in-None-clause-before
returns-in-None-clause-before c =
    λ place below begins.
    let within = c.whole_lines.ensures.within in c.in-None.ensures place (omega arith) (omega arith) begins
