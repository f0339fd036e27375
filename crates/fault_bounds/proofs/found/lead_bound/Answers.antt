use Rattle.std.proofs.Common.{◌≡◌, ◌-ℤ◌, of_z, rules, to_z, w64, ap, ◌∙◌, sym, subst}
use Rattle.fault_bounds.specs.Bounds.{IsBesideLead}
use Rattle.runqueue.specs.Queue.{runqueue_view}
use Rattle.runqueue.specs.Tasks.{entity_of}
use Rattle.fault_bounds.proofs.found.lead_bound.Goals as goal

pub returns : goal.returns
returns c =
    let task = c.in_ok-task.task in
    let least = c.in_ok-least.least in
    let v_is : to_z w64 (of_z w64 task.v) ≡ task.v = search rules in
    let least_is : to_z w64 (of_z w64 least) ≡ least = search rules in
    subst (λ deed. IsBesideLead c.args.granularity (runqueue_view c.args.moment.now.queue) deed c.lead.result.value
    c.lead.result.limit) (sym c.in-Switch.is) (
      c.lead.ensures.limit,
      (
        entity_of task,
        least,
        sym c.in_ok-task.ensures,
        c.in_ok-least.ensures c.in-Switch.prev (λ no. no c.if-not-is_runner.ensures),
        c.lead.ensures.value ∙ ap (λ v. v -ℤ to_z w64 (of_z w64 least)) v_is ∙ ap (λ l. task.v -ℤ l) least_is,
      ),
    )
