use Rattle.std.proofs.Common.{arith}
use Rattle.sched_record.proofs.Windows.{said_here, said_length}
use Rattle.sched_record.proofs.window.Window.event_at.Goals as goal

pub returns-then-index-len-clause-there : goal.returns-then-index-len-clause-there
returns-then-index-len-clause-there c =
    let self = c.args.self.now in
    said_here self.events.items self.sayings c.args.index c.index.result.now c.get.result self.paired
    (let n = c.len.ensures in let t = c.if-index-len.true in omega (arith, n, t))
    c.index.ensures c.get.ensures

pub returns-else-index-len-clause-none : goal.returns-else-index-len-clause-none
returns-else-index-len-clause-none c = λ _.
    let self = c.args.self.now in
    let m = said_length self.events.items self.sayings self.paired in
    let n = c.len.ensures in
    let t = c.if-index-len.false in
    omega (arith, m, n, t)
