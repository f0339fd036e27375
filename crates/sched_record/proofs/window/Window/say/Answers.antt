use Rattle.std.proofs.Common.{sym, ◌∙◌, arith}
use Rattle.sched_record.proofs.SayingsKept.{from_ok}
use Rattle.sched_record.proofs.Waiting.{indexed_with, on_ok, said_with, size_with, still_paired, waits_then}
use Rattle.sched_record.proofs.window.Window.say.Goals as goal

pub invariant_of-self-else-is_err : goal.invariant_of-self-else-is_err
invariant_of-self-else-is_err c =
    let old = c.args.self.now in
    let event = c.args.event.now in
    let saying = c.args.saying in
    let pushed = c.in_ok-push.ensures.added in
    let rest = c.requires.first.0 in
    let waits = c.requires.first.1 in
    let paired = still_paired old.events.items old.sayings c.push.new.self event saying rest waits pushed in
    record {
      paired = paired;
      indexed = λ few.
          let size = size_with old.events.items old.sayings c.push.new.self event saying rest waits pushed in
          let index = c.len-index.ensures in
          indexed_with old.events.items old.sayings c.push.new.self event saying rest waits pushed old.indices
          c.add_index-added.new.indices c.len-index.result old.paired index
          (old.indexed (omega (arith, few, size)))
          (from_ok c.add_index-added.result (sym c.is_err.ensures.value ∙ c.if-is_err.false)
          (c.add_index-added.ensures.added (omega (arith, few, size, index))));
    }

pub returns-else-is_err-clause-added : goal.returns-else-is_err-clause-added
returns-else-is_err-clause-added c =
    on_ok c.add_index-added.result
    (said_with c.args.self.now.events.items c.args.self.now.sayings c.push.new.self c.args.event.now c.args.saying
    c.requires.first.0 c.requires.first.1 c.in_ok-push.ensures.added)

pub returns-else-is_err-clause-rest : goal.returns-else-is_err-clause-rest
returns-else-is_err-clause-rest c rest waits =
    on_ok c.add_index-added.result
    (waits_then c.args.self.now.events.items c.args.self.now.sayings c.push.new.self c.args.event.now c.args.saying
    rest waits c.in_ok-push.ensures.added)
