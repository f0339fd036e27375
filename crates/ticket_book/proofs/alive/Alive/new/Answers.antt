use Rattle.std.proofs.Common.{take, length, ◌++◌, ◌+◌, ◌∷◌, [], ◌≡◌, ap, sym, ◌∙◌, arith}
use Rattle.std.proofs.lemmas.List.{take_more}
use Rattle.replay_model.specs.Roll.{named}
use Rattle.ticket_book.specs.Alive.{alive_view}
use Rattle.ticket_book.proofs.Living.{one_named}
use Rattle.ticket_book.proofs.Lives.{without_place}
use Rattle.ticket_book.proofs.alive.Alive.new.Goals as goal

pub loop-task-init : goal.loop-task-init
loop-task-init c = λ q.
    without_place c.new.result.items q (omega (arith, ap length c.new.ensures.items))

pub loop-task-preserved : goal.loop-task-preserved
loop-task-preserved c = λ q.
    let tasks = c.args.tasks.now in
    let i = c.loop-task.task-index in
    let t = c.task-item.result in
    let more : take (i + 1) tasks ≡ take i tasks ++ t ∷ [] =
    take_more tasks i t c.loop-task-test.true ∙ ap (λ u. take i tasks ++ u ∷ []) (sym c.task-item.is) in
    one_named (take i tasks) t (alive_view c.loop-task.alive) (alive_view c.begin.new.self)
    c.loop-task.invariant c.in_ok-begin.ensures q ∙ ap (λ ts. named ts q) (sym more)
