use Rattle.std.proofs.Common.{◌≡◌, ℤ, [], None, option_map, refl, ap, ◌∙◌, rules, to_z, of_z, w64}
use Rattle.replay_model.specs.PartWords.{start_part}
use Rattle.runqueue.specs.Entities.{listed}
use Rattle.runqueue.specs.Tasks.{entity_of}
use Rattle.runqueue.proofs.Lifts.{empty_queue}
use Rattle.runqueue.proofs.Parts.{same_tasks}
use Rattle.runqueue.proofs.TaskOf.{stands}
use Rattle.runqueue.proofs.TaskRows.{runner_row_none, task_none}
use Rattle.runqueue.proofs.runqueue.Runqueue.empty.Goals as goal

pub invariant_of-result : goal.invariant_of-result
invariant_of-result c = record {
  kept = empty_queue c.new.result c.new-2.result c.new.ensures.pids c.new-2.ensures;
  in_row = runner_row_none None c.new.result.pids 0 refl;
}

pub returns-clause-part : goal.returns-clause-part
returns-clause-part c =
    let whole : to_z w64 (of_z w64 c.args.floor) ≡ c.args.floor = search rules in
    same_tasks (listed c.new.result) (stands []) (to_z w64 (of_z w64 c.args.floor)) c.args.mark
    (λ q. ap (option_map entity_of) (task_none c.new.result c.new.ensures.pids q))
    ∙ ap (λ (f : ℤ). start_part [] f c.args.mark) whole
