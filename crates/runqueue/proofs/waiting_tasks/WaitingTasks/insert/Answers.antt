use Rattle.std.proofs.Common.{◌++◌, reverse, true, subst}
use Rattle.std.proofs.lemmas.List.{nil_from_length}
use Rattle.std.proofs.lemmas.Result.{on_ok_weaker}
use Rattle.runqueue.specs.WaitingTasks.{Updates, set_of}
use Rattle.runqueue.proofs.WaitingOrder.{turned_updates}
use Rattle.runqueue.proofs.waiting_tasks.WaitingTasks.insert.Goals as goal

pub returns-then-len-lt-MOST_LISTED-clause-updates :
    goal.returns-then-len-lt-MOST_LISTED-clause-updates
returns-then-len-lt-MOST_LISTED-clause-updates c =
    let self = c.self.inside in
    let items = c.insert_listed.new.list.items in
    let keys = self.tree.keys in
    let none = nil_from_length keys (c.is_empty.ensures.0 c.if-is_empty.true) in
    on_ok_weaker c.insert_listed.result
    (λ updates. subst (λ set. Updates set (set_of (reverse items ++ keys)) c.args.task true) c.self.view_is
    (turned_updates self.list.items items keys c.args.task true none updates))
    c.insert_listed.ensures.updates
