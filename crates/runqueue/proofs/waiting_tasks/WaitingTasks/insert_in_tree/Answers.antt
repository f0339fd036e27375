use Rattle.std.proofs.Common.{◌++◌, reverse, true, subst, ap, ◌∙◌}
use Rattle.std.proofs.lemmas.List.{nil_from_length}
use Rattle.std.specs.BTreeSet.{contains}
use Rattle.runqueue.specs.Entities.{by_runtime}
use Rattle.runqueue.specs.WaitingTasks.{Updates, set_of}
use Rattle.runqueue.proofs.WaitingOrder.{into_tree}
use Rattle.runqueue.proofs.waiting_tasks.WaitingTasks.insert_in_tree.Goals as goal

pub returns-clause-updates : goal.returns-clause-updates
returns-clause-updates c =
    let self = c.self.inside in
    let items = c.clear.new.self.items in
    let keys = self.tree.keys in
    let none = nil_from_length keys (c.is_empty.ensures.0 c.if-not-is_empty.false) in
    subst (λ set. Updates set (set_of (reverse items ++ c.insert-2.new.self.keys)) c.args.task true) c.self.view_is
    (into_tree self.list.items items keys c.in_ok-tree.tree c.insert-2.new.self c.args.task none c.clear.ensures.items
    (λ q. c.in_ok-tree.ensures q ∙ ap (λ tasks. contains by_runtime (set_of tasks) q) c.deref.ensures.value)
    c.in_ok-insert-2.ensures.updates)
