use Rattle.std.proofs.Common.{◌∙◌, ap, option_map}
use Rattle.runqueue.specs.Tasks.{entity_of}
use Rattle.runqueue.proofs.Moved.{stands_there, stands_apart, stands_alone}
use Rattle.runqueue.proofs.runqueue.Runqueue.newcomer_at.Goals as goal

pub returns-then-task-pid : goal.returns-then-task-pid
returns-then-task-pid c =
    let q = c.args.self.now in
    stands_there q.runner q.tasks c.args.pid c.in-Some.task c.in-Some.is c.if-task-pid.true

pub returns-else-task-pid : goal.returns-else-task-pid
returns-else-task-pid c =
    let q = c.args.self.now in
    ap (option_map entity_of) c.listed_newcomer.ensures
    ∙ stands_apart q.runner q.tasks c.args.pid c.in-Some.task c.in-Some.is c.if-task-pid.false

pub returns-in-None : goal.returns-in-None
returns-in-None c =
    let q = c.args.self.now in
    ap (option_map entity_of) c.listed_newcomer-in-None.ensures ∙ stands_alone q.runner q.tasks c.args.pid c.in-None.is
