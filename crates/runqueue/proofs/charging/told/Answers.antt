use Rattle.std.proofs.Common.{◌≡◌, ◌∙◌, sym, subst, rules, to_z, of_z, w64, arith}
use Rattle.std.proofs.lemmas.Int.{ints}
use Rattle.cfs_model.specs.Told.{IsWithin, drift_after}
use Rattle.runqueue.proofs.charging.told.Goals as goal

pub returns-clause-told : goal.returns-clause-told
returns-clause-told c =
    let x = c.args.exact in
    let charge = c.args.charge in
    let drift = c.in-Some.drift in
    let w = c.in-Some.ensures.within in
    let value : to_z w64 (of_z w64 charge.v) ≡ charge.v = search rules in
    let whole : to_z w64 (of_z w64 drift) ≡ drift = search rules in
    let own : to_z w64 (of_z w64 x.drift) ≡ x.drift = search rules in
    let exact : to_z w64 (of_z w64 x.v) ≡ x.v = search rules in
    let same : drift_after (to_z w64 (of_z w64 x.drift)) (to_z w64 (of_z w64 charge.v)) (to_z w64 (of_z w64 x.v))
    ≡ drift_after x.drift charge.v x.v = λ j. drift_after (own j) (value j) (exact j) in (
      record {
        pid = c.if-charge-exact.false;
        rises = omega (arith, ints, c.if-charge-own.false);
        within = subst (IsWithin c.args.bound) same w.0;
      },
      (λ j. record {
        pid = x.pid;
        nice = x.nice;
        policy = x.policy;
        place = x.place;
        v = value j;
        drift = (whole ∙ w.1 ∙ same) j;
      }),
    )

pub returns-in_default-clause-wrong : goal.returns-in_default-clause-wrong
returns-in_default-clause-wrong c e can =
    let x = c.args.exact in
    let charge = c.args.charge in
    let value : to_z w64 (of_z w64 charge.v) ≡ charge.v = search rules in
    let own : to_z w64 (of_z w64 x.drift) ≡ x.drift = search rules in
    let exact : to_z w64 (of_z w64 x.v) ≡ x.v = search rules in
    let same : drift_after (to_z w64 (of_z w64 x.drift)) (to_z w64 (of_z w64 charge.v)) (to_z w64 (of_z w64 x.v))
    ≡ drift_after x.drift charge.v x.v = λ j. drift_after (own j) (value j) (exact j) in
    c.told_drift.ensures.beyond c.in_default.is (subst (IsWithin c.args.bound) (sym same) can.within)
