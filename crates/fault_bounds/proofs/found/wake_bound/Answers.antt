use Rattle.std.proofs.Common.{◌≡◌, ℤ, ◌-ℤ◌, of_z, pos, rules, to_z, w64, ◌∙◌, sym, subst}
use Rattle.std.specs.Int.{int_max}
use Rattle.fault_bounds.specs.Bounds.{IsBesideBounds}
use Rattle.runqueue.specs.Queue.{runqueue_view}
use Rattle.runqueue.specs.Tasks.{entity_of}
use Rattle.fault_bounds.proofs.found.wake_bound.Goals as goal

pub returns : goal.returns
returns c =
    let v = c.in_ok-claim.claim.v in
    let own = c.in_ok-own.field-0.v in
    let floor = (runqueue_view c.args.moment.now.queue).floor in
    let v_is : to_z w64 (of_z w64 v) ≡ v = search rules in
    let own_is : to_z w64 (of_z w64 own) ≡ own = search rules in
    let whole : to_z w64 (of_z w64 c.floor.result) ≡ c.floor.result = search rules in
    let value = c.beyond_woken.ensures.value ∙ v_is in
    let Beside : ℤ → ℤ → ℤ → Type 0 =
    λ x o f. IsBesideBounds x (int_max o (f -ℤ pos c.args.credit)) (int_max o f) c.beyond_woken.result.limit in (
      c.in_ok-claim.claim,
      c.in_ok-claim.was,
      value,
      (
        entity_of c.in_ok-own.field-0,
        sym c.in_ok-own.ensures,
        subst (λ x. Beside x own floor) (sym value)
            (subst (λ f. Beside v own f) (whole ∙ c.floor.ensures)
            (subst (λ o. Beside v o (to_z w64 (of_z w64 c.floor.result))) own_is
            (subst (λ x. Beside x (to_z w64 (of_z w64 own)) (to_z w64 (of_z w64 c.floor.result))) v_is
            c.beyond_woken.ensures.limit))),
      ),
    )
