use Rattle.std.proofs.Common.{arith}
use Rattle.sched_record.proofs.Windows.{said_length}
use Rattle.sched_record.proofs.window.Window.step.Goals as goal

pub step_of-requires : goal.step_of-requires
step_of-requires c =
    let self = c.args.self.now in
    let n = said_length self.events.items self.sayings self.paired in
    let h = c.requires in
    omega (arith, n, h)
