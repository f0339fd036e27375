use Rattle.std.proofs.Common.{arith}
use Rattle.window_audit.proofs.Lists.{calm_more}
use Rattle.window_audit.proofs.members.want_memory.Goals as goal

pub loop-member-preserved : goal.loop-member-preserved
loop-member-preserved c =
    calm_more c.args.members.now c.loop-member.member-index c.member-item.result c.loop-member.invariant
    c.loop-member-test.true c.member-item.is c.if-member.false

pub returns : goal.returns
returns c = λ calm k d lt. c.loop-member.invariant k d (let h = c.loop-member-test.false in omega (arith, h, lt))
