use Rattle.std.proofs.Common.{ap, arith}
use Rattle.window_joining.proofs.Firsts.{passed_hint}
use Rattle.window_joining.proofs.between.passed_by.Goals as goal

pub returns-then-line-clause-passed : goal.returns-then-line-clause-passed
returns-then-line-clause-passed g c k d lt =
    let line_of = g.T.OnLine.line in
    let is = ap line_of c.index-items-hint.is in
    let said = c.line.ensures in
    passed_hint line_of c.args.items.now c.args.hint c.args.line c.index-items-hint.result c.requires
    c.if-hint-items.true (omega (arith, is, said, c.if-line.true)) k d lt
