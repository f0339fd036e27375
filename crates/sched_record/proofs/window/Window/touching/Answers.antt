use Rattle.std.proofs.Common.{◌^◌, ◌<◌, length, ◌∙◌, arith}
use Rattle.sched_record.proofs.WindowIndices.{are_touching}
use Rattle.sched_record.proofs.Windows.{said_length}
use Rattle.sched_record.proofs.window.Window.touching.Goals as goal
use Rattle.sched_record.proofs.window.Window.touching.Goals.{then-cpu-ge-MOST_PROCESSORS-via-then-cpu-ge-MOST_PROCESSORS}
use Rattle.sched_record.proofs.window.Window.touching.Goals.{then-cpu-ge-MOST_PROCESSORS-via-else-cpu-ge-MOST_PROCESSORS+then-len}

pub returns-clause-touching : goal.returns-clause-touching
returns-clause-touching c =
    let self = c.args.self.now in
    let n = c.len.ensures in
    let t = c.if-len.false in
    let known : length self.sayings < 2 ^ 32 = omega (arith, n, t) in
    let few = c.if-cpu-ge-MOST_PROCESSORS.false in
    are_touching c.args.cpu self.events.items self.sayings c.at.result.now self.paired
    (c.at.ensures ∙ self.indexed known c.args.cpu (omega (arith, few)))

pub returns-then-cpu-ge-MOST_PROCESSORS-clause-kept : goal.returns-then-cpu-ge-MOST_PROCESSORS-clause-kept
returns-then-cpu-ge-MOST_PROCESSORS-clause-kept c few short =
    let self = c.args.self.now in
    elim c.then-cpu-ge-MOST_PROCESSORS.branch [
      | then-cpu-ge-MOST_PROCESSORS-via-then-cpu-ge-MOST_PROCESSORS w ↦
          (let t = w.if-cpu-ge-MOST_PROCESSORS.true in absurd (omega (arith, few, t)))
      | then-cpu-ge-MOST_PROCESSORS-via-else-cpu-ge-MOST_PROCESSORS+then-len w ↦
          (let n = said_length self.events.items self.sayings self.paired in let k = w.len.ensures in
          let t = w.if-len.true in absurd (omega (arith, n, k, t, short)))
    ]
