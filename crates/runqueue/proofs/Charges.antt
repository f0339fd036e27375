-- The charge of one task, in range and out of it.
use Rattle.std.proofs.Common.{◌≡◌, ℕ, ◌≤◌, ℤ, pos, ◌+ℤ◌, ◌-ℤ◌, ◌≤ℤ◌, ◌<ℤ◌, ap, ◌∙◌, subst, arith}
use Rattle.std.proofs.lemmas.Int.{ints}
use Rattle.cfs_model.specs.Charge.{greatest, charge_of}
use Rattle.cfs_model.specs.Nice.{task_weight}
use Rattle.runqueue.specs.declared.sched_entity.SchedEntity.{SchedEntity}
use Rattle.runqueue.specs.Tasks.{cost_of, charged_task, CanBeCharged}

-- a task that is charged above the greatest can't be
pub too_far : (delta : ℕ) (t : SchedEntity) (weight : ℕ) (cost : ℤ) → weight ≡ task_weight t.nice t.policy
    → cost ≡ pos (charge_of delta weight)
    → (pos greatest -ℤ cost) <ℤ t.v → CanBeCharged delta t → ⊥
too_far delta t weight cost weighs costs far can =
    let c : cost ≡ pos (cost_of delta t) = costs ∙ ap (λ w. pos (charge_of delta w)) weighs in
    let near = can.1 in
    absurd (omega (arith, ints))

-- one that isn't can be, and is
pub near_enough : (delta : ℕ) (t : SchedEntity) (weight : ℕ) (cost v : ℤ) → weight ≡ task_weight t.nice t.policy
    → charge_of delta weight ≤ greatest
    → cost ≡ pos (charge_of delta weight) → t.v ≤ℤ (pos greatest -ℤ cost) → v ≡ t.v +ℤ cost
    → CanBeCharged delta t × (record t { v = v } ≡ charged_task delta t)
near_enough delta t weight cost v weighs small costs near is =
    let c : cost ≡ pos (cost_of delta t) = costs ∙ ap (λ w. pos (charge_of delta w)) weighs in
    let s : cost_of delta t ≤ greatest = subst (λ (w : ℕ). charge_of delta w ≤ greatest) weighs small in (
      (s, omega (arith, ints)),
      ap (λ (w : ℤ). record t { v = w }) (is ∙ ap (λ (w : ℤ). t.v +ℤ w) c),
    )
