use Rattle.std.proofs.Common.{◌≡◌, ◌≤ℤ◌, nat_abs, of_z, pos, inr, rules, to_z, w64, ap, ◌∙◌, arith}
use Rattle.std.specs.Int.{w128}
use Rattle.std.proofs.lemmas.Int.{ints}
use Rattle.cfs_model.specs.Told.{drift_after}
use Rattle.runqueue.specs.Tasks.{entity_of}
use Rattle.fault_bounds.proofs.charging.drift_bound.Goals as goal

pub returns-else-charge-v : goal.returns-else-charge-v
returns-else-charge-v c =
    let task = c.args.task in
    let charge = c.args.charge in
    let above = c.if-charge-v.false in
    let drift_is : to_z w64 (of_z w64 task.drift) ≡ task.drift = search rules in
    let told_is : to_z w64 (of_z w64 charge.v) ≡ charge.v = search rules in
    let exact_is : to_z w128 (of_z w128 c.exact_at.result) ≡ c.exact_at.result = search rules in
    let rises : task.v ≤ℤ charge.v = omega (arith, ints, above) in (
      entity_of task,
      c.requires.stands,
      c.requires.runs,
      inr (
        rises,
        c.beside_drift.ensures.value
            ∙ ap (λ d. pos (nat_abs (drift_after d (to_z w64 (of_z w64 charge.v)) (to_z w128 (of_z w128
            c.exact_at.result))))) drift_is
            ∙ ap (λ v. pos (nat_abs (drift_after task.drift v (to_z w128 (of_z w128 c.exact_at.result))))) told_is
            ∙ ap (λ e. pos (nat_abs (drift_after task.drift charge.v e))) (exact_is ∙ c.exact_at.ensures.exact),
        c.beside_drift.ensures.limit,
      ),
    )
