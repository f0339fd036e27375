use Rattle.std.proofs.Common.{◌<◌, sym, ◌∙◌, subst, length, take, ◌+◌, arith}
use Rattle.std.proofs.lemmas.Bool.{eq-eqb, ne_eqb}
use Rattle.std.proofs.lemmas.List.{get_or_default}
use Rattle.ticket_book.proofs.Tasks.{HasWalked, other_task, same_task, tasks_differ, walked_here, walked_past}
use Rattle.ticket_book.proofs.relying.are_tasks_at.Goals as goal
use Rattle.ticket_book.proofs.relying.are_tasks_at.Goals.{then-index-here-via-then-index-here}
use Rattle.ticket_book.proofs.relying.are_tasks_at.Goals.{then-index-here-via-else-index-here+then-ne}
use Rattle.ticket_book.proofs.relying.are_tasks_at.Goals.{then-task-cpu+else-index-here+else-ne, else-task-cpu}

pub returns-then-index-here : goal.returns-then-index-here
returns-then-index-here c =
    let here = c.args.here.now in
    let index = c.loop-task.index in
    let task = c.task-item.result in
    let differ =
    tasks_differ c.args.cpu c.args.tasks.now here c.loop-task.task-index index task c.loop-task-test.true c.task-item.is
    (eq-eqb task.cpu c.args.cpu c.if-task-cpu.true) c.loop-task.invariant.count in
    elim c.then-index-here.branch [
      | then-index-here-via-then-index-here w ↦ (
        λ f. absurd cc,
        λ same. absurd
            (differ (λ more e. let all = w.if-index-here.true in omega (arith, more, all)) same),
      )
      | then-index-here-via-else-index-here+then-ne w ↦ (
        λ f. absurd cc,
        λ same. absurd (differ (λ more e.
            other_task w.index-here-index.result task w.ne.result w.ne.ensures w.if-ne.true
            (w.index-here-index.is ∙ get_or_default here index w.index-here-index.result task more ∙ e)) same),
      )
    ]

pub loop-task-preserved : goal.loop-task-preserved
loop-task-preserved c =
    let here = c.args.here.now in
    let tasks = c.args.tasks.now in
    let i = c.loop-task.task-index in
    let index = c.loop-task.index in
    let task = c.task-item.result in
    let before = c.loop-task.invariant in
    let walked : HasWalked c.args.cpu (take i tasks) here index =
    record { within = before.within; count = before.count; same = before.same } in
    let after : HasWalked c.args.cpu (take (i + 1) tasks) here c.if-task-cpu.index =
    elim c.if-task-cpu.branch [
      | then-task-cpu+else-index-here+else-ne w ↦
          (let more : index < length here = let low = before.within in let not_all = w.if-index-here.false in
          omega (arith, low, not_all) in
          let equal = sym (get_or_default here index w.index-here-index.result task more) ∙ sym w.index-here-index.is
          ∙ same_task w.index-here-index.result task w.ne.result w.ne.ensures w.if-ne.false in
          subst (HasWalked c.args.cpu (take (i + 1) tasks) here) (sym w.index-is)
          (walked_here c.args.cpu tasks here i index task c.loop-task-test.true c.task-item.is
          (eq-eqb task.cpu c.args.cpu w.if-task-cpu.true) walked more equal))
      | else-task-cpu w ↦
          subst (HasWalked c.args.cpu (take (i + 1) tasks) here) (sym w.index-is)
          (walked_past c.args.cpu tasks here i index task c.loop-task-test.true c.task-item.is
          (ne_eqb task.cpu c.args.cpu w.if-task-cpu.false) walked)
    ] in
    record { within = after.within; count = after.count; same = after.same }
