use Rattle.std.proofs.Common.{◌≡◌, ◌-ℤ◌, of_z, pos, rules, subst, to_z}
use Rattle.std.specs.Int.{int_max, w128}
use Rattle.fault_bounds.specs.Bounds.{IsBesideBounds}
use Rattle.fault_bounds.proofs.found.beyond_woken.Goals as goal

pub returns-clause-limit : goal.returns-clause-limit
returns-clause-limit c =
    let own = c.args.own in
    let least = int_max own (c.args.floor -ℤ pos c.args.credit) in
    let greatest = int_max own c.args.floor in
    let limit = c.beyond.result.limit in
    let v_is : to_z w128 (of_z w128 c.from.result) ≡ c.args.v = search rules in
    let least_is : to_z w128 (of_z w128 c.least_woken.result) ≡ least = search rules in
    let greatest_is : to_z w128 (of_z w128 c.from-greatest.result) ≡ greatest = search rules in
    subst (λ x. IsBesideBounds x least greatest limit) v_is
    (subst (λ x. IsBesideBounds (to_z w128 (of_z w128 c.from.result)) x greatest limit) least_is
    (subst (λ x. IsBesideBounds (to_z w128 (of_z w128 c.from.result)) (to_z w128 (of_z w128 c.least_woken.result)) x
    limit) greatest_is c.beyond.ensures.limit))
