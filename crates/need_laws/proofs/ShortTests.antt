-- The first test of a step that fails where settings are short of what it needs of one of them: that of this setting.
use Rattle.std.proofs.Common.{◌≡◌, ◌≢◌, ℕ, zero, suc, ◌+◌, ◌<◌, ◌≤◌, Option, Some, None, ℤ, pos, ◌+ℤ◌}
use Rattle.std.proofs.Common.{◌<ℤ◌, inl, inr, refl, sym, subst, arith}
use Rattle.std.proofs.lemmas.Bool.{cases_lt}
use Rattle.std.proofs.lemmas.Int.{ints, clamps}
use Rattle.cfs_model.specs.Knobs.{KnobsView}
use Rattle.cfs_model.specs.Least.{AtMost}
use Rattle.replay_model.specs.Part.{Part, IsIn, place_in}
use Rattle.replay_model.specs.QueueTests.{IsIdleTooLong, IsWrongCharge}
use Rattle.replay_model.specs.ClaimTests.{if_resting, IsClaimExtra, IsInWakeBounds, IsWakeOutside, IsInForkBounds}
use Rattle.replay_model.specs.ClaimTests.{IsForkOutside, IsNotLeast}
use Rattle.replay_model.specs.Cause.{FailsOn}
use Rattle.replay_model.specs.Page.{ReplayStateView}
use Rattle.replay_model.specs.Tests.{FirstHolds, NoneHolds, charge_tests, late_tests}
use Rattle.replay_model.specs.Needs.{IsBirthNeed, IsDriftNeed, IsExcess, IsPickNeed, IsWakeNeed, PassesNeeding}
use Rattle.replay_model.proofs.Clear.{clear_of, place_or, stands_of}
use Rattle.replay_model.proofs.PartFacts.{task_in}
use Rattle.replay_laws.proofs.needing.StepNeeds.{needs_of_tests, passes_within}
use Rattle.need_laws.specs.Short.{IsShort, charged_by, kind_of, needing, placed_by}
use Rattle.cfs_model.specs.declared.claim.Claim.{Claim}
use Rattle.cfs_model.specs.declared.charge_line.ChargeLine.{ChargeLine}
use Rattle.cfs_model.specs.declared.kind.Kind.TheVariants.{NotLeast, WakeBounds, ForkBounds}
use Rattle.cfs_model.specs.declared.setting.Setting.{Setting}
use Rattle.cfs_model.specs.declared.setting.Setting.TheVariants.{Granularity, Credit, Debit, Slack, Drift}
use Rattle.cfs_model.specs.declared.task.Place.{Place}
use Rattle.cfs_model.specs.declared.task.Place.TheVariants.{Run, Wait, Rest}
use Rattle.replay_model.specs.declared.step.Deed.{Deed}
use Rattle.replay_model.specs.declared.step.Deed.TheVariants.{Switch, Wake, Born, Leave, Arrive}
use Rattle.replay_model.specs.declared.step.Step.{Step}

-- no more is needed than none
none_short : (need bound : ℕ) → need ≡ 0 → bound < need → ⊥
none_short need bound e k = omega arith

beyond : (v from : ℤ) (need bound : ℕ) → IsExcess v from need → bound < need → (from +ℤ pos bound) <ℤ v
beyond v from need bound (inl h) k = let a = h.1 in absurd (omega arith)
beyond v from need bound (inr h) k = omega (arith, ints)

-- a pick too far above the least
far_pick : (bound need : ℕ) (part : Part) (deed : Deed) → IsPickNeed part deed need → bound < need
    → IsNotLeast bound part deed (placed_by deed)
far_pick bound need part (Switch prev pn way zero nn) n k = absurd (none_short need bound n k)
far_pick bound need part (Switch prev pn way (suc next) nn) n k = (
  (
    n.0,
    n.3.task,
    n.3.pid,
    n.2,
    n.3.stands,
    n.3.waits,
    subst (λ x. (x +ℤ pos bound) <ℤ n.0.runtime) (sym n.3.runtime) (beyond n.0.runtime n.1 need bound n.4 k),
  ),
  refl,
)
far_pick bound need part (Wake task nice) n k = absurd (none_short need bound n k)
far_pick bound need part (Born task nice policy) n k = absurd (none_short need bound n k)
far_pick bound need part (Leave task nice dest) n k = absurd (none_short need bound n k)
far_pick bound need part (Arrive task nice orig policy) n k = absurd (none_short need bound n k)

-- beside it no wakeup and no birth is out of its bounds
no_wake_at_pick : (bound need credit : ℕ) (part : Part) (deed : Deed) (claim : Option Claim) → IsPickNeed part deed need
    → bound < need → (pid : ℕ) → ¬ IsWakeOutside credit part deed claim pid
no_wake_at_pick bound need credit part (Switch prev pn way next nn) claim n k pid h = h
no_wake_at_pick bound need credit part (Wake task nice) claim n k pid h = none_short need bound n k
no_wake_at_pick bound need credit part (Born task nice policy) claim n k pid h = h
no_wake_at_pick bound need credit part (Leave task nice dest) claim n k pid h = h
no_wake_at_pick bound need credit part (Arrive task nice orig policy) claim n k pid h = h

no_fork_at_pick : (bound need debit : ℕ) (part : Part) (deed : Deed) (claim : Option Claim) → IsPickNeed part deed need
    → bound < need → (pid : ℕ) → ¬ IsForkOutside debit part deed claim pid
no_fork_at_pick bound need debit part (Switch prev pn way next nn) claim n k pid h = h
no_fork_at_pick bound need debit part (Wake task nice) claim n k pid h = h
no_fork_at_pick bound need debit part (Born task nice policy) claim n k pid h = none_short need bound n k
no_fork_at_pick bound need debit part (Leave task nice dest) claim n k pid h = h
no_fork_at_pick bound need debit part (Arrive task nice orig policy) claim n k pid h = h

-- a wakeup too far below the floor
none_resting : (pid : ℕ) (o : Option Place) → o ≢ Some Rest → if_resting pid o ≡ None
none_resting pid None h = refl
none_resting pid (Some Run) h = refl
none_resting pid (Some Wait) h = refl
none_resting pid (Some Rest) h = absurd (h refl)

rests_here : (part : Part) (task : ℕ) (nice : ℤ) (claim : Claim)
    → ((pid : ℕ) → ¬ IsClaimExtra part (Wake task nice) (Some claim) pid) → IsIn part Rest task
rests_here part task nice claim h = elim (place_or (place_in part task) Rest) [
  | inl e ↦ e
  | inr ne ↦ absurd (h claim.pid (none_resting task (place_in part task) ne, refl))
]

below_bounds : (bound : ℕ) (floor own v : ℤ) → (v +ℤ pos bound) <ℤ floor → ¬ IsInWakeBounds bound floor own v
below_bounds bound floor own v h k = let a = k.0 in omega (arith, ints, clamps)

low_wake : (bound need : ℕ) (part : Part) (deed : Deed) (claim : Option Claim) → IsWakeNeed part deed claim need
    → ((pid : ℕ) → ¬ IsClaimExtra part deed claim pid) → bound < need
    → IsWakeOutside bound part deed claim (placed_by deed)
low_wake bound need part (Wake task nice) (Some claim) n extra k =
    let s = task_in part Rest task (rests_here part task nice claim extra) in (
      (
        s.0,
        s.1,
        s.2,
        below_bounds bound part.floor s.0.runtime claim.v (beyond part.floor claim.v need bound n k),
      ),
      refl,
    )
low_wake bound need part (Wake task nice) None n extra k = absurd (none_short need bound n k)
low_wake bound need part (Switch prev pn way next nn) claim n extra k = absurd (none_short need bound n k)
low_wake bound need part (Born task nice policy) claim n extra k = absurd (none_short need bound n k)
low_wake bound need part (Leave task nice dest) claim n extra k = absurd (none_short need bound n k)
low_wake bound need part (Arrive task nice orig policy) claim n extra k = absurd (none_short need bound n k)

-- a birth too far above it
above_bounds : (bound : ℕ) (floor v : ℤ) → (floor +ℤ pos bound) <ℤ v → ¬ IsInForkBounds bound floor v
above_bounds bound floor v h k = let a = k.1 in omega (arith, ints)

high_birth : (bound need : ℕ) (part : Part) (deed : Deed) (claim : Option Claim) → IsBirthNeed part deed claim need
    → bound < need → IsForkOutside bound part deed claim (placed_by deed)
high_birth bound need part (Born task nice policy) (Some claim) n k =
    (above_bounds bound part.floor claim.v (beyond claim.v part.floor need bound n k), refl)
high_birth bound need part (Born task nice policy) None n k = absurd (none_short need bound n k)
high_birth bound need part (Switch prev pn way next nn) claim n k = absurd (none_short need bound n k)
high_birth bound need part (Wake task nice) claim n k = absurd (none_short need bound n k)
high_birth bound need part (Leave task nice dest) claim n k = absurd (none_short need bound n k)
high_birth bound need part (Arrive task nice orig policy) claim n k = absurd (none_short need bound n k)

no_wake_at_birth : (bound need credit : ℕ) (part : Part) (deed : Deed) (claim : Option Claim)
    → IsBirthNeed part deed claim need → bound < need → (pid : ℕ) → ¬ IsWakeOutside credit part deed claim pid
no_wake_at_birth bound need credit part (Switch prev pn way next nn) claim n k pid h = h
no_wake_at_birth bound need credit part (Wake task nice) claim n k pid h = none_short need bound n k
no_wake_at_birth bound need credit part (Born task nice policy) claim n k pid h = h
no_wake_at_birth bound need credit part (Leave task nice dest) claim n k pid h = h
no_wake_at_birth bound need credit part (Arrive task nice orig policy) claim n k pid h = h

-- a told charge that strays too far: with as little drift its tests would not pass
in_time_by : (bound : ℕ) (since : Option ℕ) (time : ℕ) → ((pid : ℕ) → ¬ IsIdleTooLong bound since time pid) → (x : ℕ)
    → since ≡ Some x → time ≤ x + bound
in_time_by bound since time h x e = elim (cases_lt (x + bound) time) [
  | inl k ↦ absurd (h 0 (subst (λ o. IsIdleTooLong bound o time 0) (sym e) (k, refl)))
  | inr k ↦ k
]

too_low : (need bound : ℕ) → need ≤ bound → bound < need → ⊥
too_low need bound h k = omega arith

far_charge : (knobs : KnobsView) (bound cpu : ℕ) (before : ReplayStateView) (step : Step) (after : ReplayStateView)
    (needs : KnobsView) → PassesNeeding knobs cpu before step after needs → bound < needs.drift
    → IsWrongCharge bound before.part step.time step.charge (charged_by step.charge)
far_charge knobs bound cpu before step after needs p k = go step.charge refl
  where
    less : KnobsView
    less = record knobs { drift = bound }

    passing : ((pid : ℕ) → ¬ IsWrongCharge bound before.part step.time step.charge pid) → needs.drift ≤ bound
    passing told = needs_of_tests knobs less cpu before.part step p.passes.found p.passes.found before.since needs
        p.passes.passes (record {
          in_range = p.passes.passes.in_range;
          told = told;
          is_found = p.passes.passes.is_found;
          none = p.passes.passes.none;
        }) refl p.needs_are (in_time_by knobs.slack before.since step.time p.passes.in_time) Drift

    go : (charge : Option ChargeLine) → step.charge ≡ charge
        → IsWrongCharge bound before.part step.time step.charge (charged_by step.charge)
    go None e = absurd (none_short needs.drift bound
        (subst (λ o. IsDriftNeed p.passes.found o needs.drift) e p.needs_are.drift) k)
    go (Some charge) e = subst (λ o. IsWrongCharge bound before.part step.time o (charged_by o)) (sym e) (
      (λ told. too_low needs.drift bound
          (passing (λ pid wrong. (subst (λ o. IsWrongCharge bound before.part step.time o pid) e wrong).0 told)) k),
      refl,
    )

-- more of a drift alone is still enough
at_least : (needs : KnobsView) (drift : ℕ) → needs.drift ≤ drift → AtMost needs (record needs { drift = drift })
at_least needs drift k Granularity = omega arith
at_least needs drift k Credit = omega arith
at_least needs drift k Debit = omega arith
at_least needs drift k Slack = omega arith
at_least needs drift k Drift = k

-- with enough of a drift it isn't wrong
near_charge : (knobs other : KnobsView) (cpu : ℕ) (before : ReplayStateView) (step : Step) (after : ReplayStateView)
    (needs : KnobsView) → PassesNeeding knobs cpu before step after needs → needs.drift ≤ other.drift
    → (pid : ℕ) → ¬ IsWrongCharge other.drift before.part step.time step.charge pid
near_charge knobs other cpu before step after needs p k =
    (passes_within knobs (record needs { drift = other.drift }) cpu before step after needs p
    (at_least needs other.drift k)).passes.told

-- none of the tests of the charge holds
no_charge_test : (knobs other : KnobsView) (cpu : ℕ) (before : ReplayStateView) (step : Step) (after : ReplayStateView)
    (needs : KnobsView) → PassesNeeding knobs cpu before step after needs → needs.drift ≤ other.drift
    → NoneHolds (charge_tests other before.part step)
no_charge_test knobs other cpu before step after needs p k =
    (p.passes.passes.in_range, (near_charge knobs other cpu before step after needs p k, tt))

-- the first test that holds, where it is that of a wakeup, of a birth or of a pick
first_wake : (knobs other : KnobsView) (cpu : ℕ) (part : Part) (step : Step)
    → NoneHolds (late_tests knobs cpu part step)
    → (pid : ℕ) → IsWakeOutside other.credit part step.deed step.claim pid
    → FirstHolds (late_tests other cpu part step) WakeBounds pid
first_wake knobs other cpu part step none pid h =
    let c = clear_of knobs cpu part step none in
    inr (
      stands_of knobs cpu part step none,
      inr (
        c.home,
        inr (
          c.self,
          inr (
            c.prev,
            inr (
              c.strange,
              inr (
                c.already,
                inr (
                  c.running,
                  inr (
                    c.prio,
                    inr (
                      c.missing,
                      inr (
                        c.extra,
                        inr (
                          c.other,
                          inr (
                            c.put_back,
                            inl (h, refl),
                          ),
                        ),
                      ),
                    ),
                  ),
                ),
              ),
            ),
          ),
        ),
      ),
    )

first_fork : (knobs other : KnobsView) (cpu : ℕ) (part : Part) (step : Step)
    → NoneHolds (late_tests knobs cpu part step)
    → ((pid : ℕ) → ¬ IsWakeOutside other.credit part step.deed step.claim pid)
    → (pid : ℕ) → IsForkOutside other.debit part step.deed step.claim pid
    → FirstHolds (late_tests other cpu part step) ForkBounds pid
first_fork knobs other cpu part step none wake pid h =
    let c = clear_of knobs cpu part step none in
    inr (
      stands_of knobs cpu part step none,
      inr (
        c.home,
        inr (
          c.self,
          inr (
            c.prev,
            inr (
              c.strange,
              inr (
                c.already,
                inr (
                  c.running,
                  inr (
                    c.prio,
                    inr (
                      c.missing,
                      inr (
                        c.extra,
                        inr (
                          c.other,
                          inr (
                            c.put_back,
                            inr (wake, inl (h, refl)),
                          ),
                        ),
                      ),
                    ),
                  ),
                ),
              ),
            ),
          ),
        ),
      ),
    )

first_pick : (knobs other : KnobsView) (cpu : ℕ) (part : Part) (step : Step)
    → NoneHolds (late_tests knobs cpu part step)
    → ((pid : ℕ) → ¬ IsWakeOutside other.credit part step.deed step.claim pid)
    → ((pid : ℕ) → ¬ IsForkOutside other.debit part step.deed step.claim pid)
    → (pid : ℕ) → IsNotLeast other.granularity part step.deed pid
    → FirstHolds (late_tests other cpu part step) NotLeast pid
first_pick knobs other cpu part step none wake fork pid h =
    let c = clear_of knobs cpu part step none in
    inr (
      stands_of knobs cpu part step none,
      inr (
        c.home,
        inr (
          c.self,
          inr (
            c.prev,
            inr (
              c.strange,
              inr (
                c.already,
                inr (
                  c.running,
                  inr (
                    c.prio,
                    inr (
                      c.missing,
                      inr (
                        c.extra,
                        inr (
                          c.other,
                          inr (
                            c.put_back,
                            inr (wake, inr (fork, inr (c.next, inr (c.beside, inl (h, refl))))),
                          ),
                        ),
                      ),
                    ),
                  ),
                ),
              ),
            ),
          ),
        ),
      ),
    )

-- so the first test that fails is that of the setting of which there is too little
pub fails_short : (knobs other : KnobsView) (cpu : ℕ) (before : ReplayStateView) (step : Step)
    (after : ReplayStateView) (needs : KnobsView) (which : Setting)
    → PassesNeeding knobs cpu before step after needs → which ≢ Slack → IsShort which needs other
    → FailsOn other cpu before.part step (kind_of which) (needing which step)
fails_short knobs other cpu before step after needs Slack p not_slack short = absurd (not_slack refl)
fails_short knobs other cpu before step after needs Drift p not_slack short =
    inl (inr (
      p.passes.passes.in_range,
      inl (far_charge knobs other.drift cpu before step after needs p short.less, refl),
    ))
fails_short knobs other cpu before step after needs Credit p not_slack short =
    let none = p.passes.passes.none in
    let c = clear_of knobs cpu p.passes.found step none in
    inr (
      no_charge_test knobs other cpu before step after needs p (short.others Drift (λ e. cc)),
      (
        p.passes.found,
        p.passes.passes.is_found,
        first_wake knobs other cpu p.passes.found step none (placed_by step.deed)
            (low_wake other.credit needs.credit p.passes.found step.deed step.claim p.needs_are.credit c.extra
            short.less),
      ),
    )
fails_short knobs other cpu before step after needs Debit p not_slack short =
    let found = p.passes.found in
    inr (
      no_charge_test knobs other cpu before step after needs p (short.others Drift (λ e. cc)),
      (
        found,
        p.passes.passes.is_found,
        first_fork knobs other cpu found step p.passes.passes.none
            (no_wake_at_birth other.debit needs.debit other.credit found step.deed step.claim p.needs_are.debit
            short.less)
            (placed_by step.deed)
            (high_birth other.debit needs.debit found step.deed step.claim p.needs_are.debit short.less),
      ),
    )
fails_short knobs other cpu before step after needs Granularity p not_slack short =
    let found = p.passes.found in
    let bound = other.granularity in
    let need = needs.granularity in
    inr (
      no_charge_test knobs other cpu before step after needs p (short.others Drift (λ e. cc)),
      (
        found,
        p.passes.passes.is_found,
        first_pick knobs other cpu found step p.passes.passes.none
            (no_wake_at_pick bound need other.credit found step.deed step.claim p.needs_are.granularity short.less)
            (no_fork_at_pick bound need other.debit found step.deed step.claim p.needs_are.granularity short.less)
            (placed_by step.deed) (far_pick bound need found step.deed p.needs_are.granularity short.less),
      ),
    )
