use Rattle.std.proofs.Common.{◌++◌, reverse, false, subst}
use Rattle.std.proofs.lemmas.List.{nil_from_length}
use Rattle.runqueue.specs.WaitingTasks.{Updates, set_of}
use Rattle.runqueue.proofs.WaitingOrder.{turned_updates}
use Rattle.runqueue.proofs.waiting_tasks.WaitingTasks.remove.Goals as goal

pub returns-then-is_empty : goal.returns-then-is_empty
returns-then-is_empty c =
    let self = c.self.inside in
    let items = c.remove_listed.new.list.items in
    let keys = self.tree.keys in
    let none = nil_from_length keys (c.is_empty.ensures.0 c.if-is_empty.true) in
    record {
      updates = subst (λ set. Updates set (set_of (reverse items ++ keys)) c.args.task false) c.self.view_is
          (turned_updates self.list.items items keys c.args.task false none c.remove_listed.ensures.updates);
    }
