use Rattle.std.proofs.Common.{◌≡◌, ◌∙◌, Option, rules, sym, subst, to_z, of_z, w64}
use Rattle.runqueue.specs.declared.sched_entity.SchedEntity.{SchedEntity}
use Rattle.runqueue.specs.Entities.{IsQueue}
use Rattle.runqueue.proofs.Moved.{restored_part}
use Rattle.runqueue.proofs.EntitiesKept.{same_queue}
use Rattle.runqueue.proofs.TaskRows.{runner_row_same}
use Rattle.runqueue.proofs.runqueue.Runqueue.restore.Goals as goal

pub invariant_of-self : goal.invariant_of-self
invariant_of-self c =
    let q = c.requires.0 in
    let now = c.args.self.now in
    let same = c.requires.2 in
    record {
      kept = subst (λ (r : Option SchedEntity). IsQueue r now.tasks now.waiting) (sym c.requires.1.runner)
          (same_queue q.runner q.tasks now.tasks q.waiting now.waiting same.tasks same.waiting q.kept);
      in_row = runner_row_same q.runner c.args.before.runner q.tasks.pids now.tasks.pids q.runner_row
          c.args.before.runner_row c.requires.1.runner same.pids c.requires.1.runner_row q.in_row;
    }

pub returns-clause-part : goal.returns-clause-part
returns-clause-part c q is same =
    let now = c.args.self.now in
    let before = c.args.before in
    let whole : to_z w64 (of_z w64 before.floor) ≡ before.floor = search rules in
    restored_part q.runner before.runner q.tasks now.tasks q.floor
    (to_z w64 (of_z w64 before.floor)) q.mark before.mark is.runner (whole ∙ is.floor) is.mark same.tasks
