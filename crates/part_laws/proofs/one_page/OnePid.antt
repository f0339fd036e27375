-- Each test of a step holds of at most one pid, so the first that holds is one, with one pid.
use Rattle.std.proofs.Common.{◌≡◌, ℕ, zero, suc, Option, Some, None, option_map, inl, inr, List, [], ◌∷◌, sym, ap, ◌∙◌}
use Rattle.std.specs.Bool.{⊤}
use Rattle.cfs_model.specs.Knobs.{KnobsView}
use Rattle.replay_model.specs.Part.{Part, Entity, IsIn}
use Rattle.replay_model.specs.PartWords.{OneRunsIn}
use Rattle.replay_model.specs.QueueTests.{IsIdleTooLong, IsOutOfRange, IsWrongCharge, IsStrangeNice, IsMoveHome}
use Rattle.replay_model.specs.QueueTests.{IsSelfSwitch, IsPrevNotRunning, IsStrange, IsAlready, IsMoveRunning}
use Rattle.replay_model.specs.QueueTests.{IsWrongPrio}
use Rattle.replay_model.specs.ClaimTests.{claimant, IsClaimMissing, IsClaimExtra, IsClaimPid, IsWrongPutBack}
use Rattle.replay_model.specs.ClaimTests.{IsWakeOutside, IsForkOutside, IsNextNotWaiting, IsIdleBesideWaiting}
use Rattle.replay_model.specs.ClaimTests.{IsNotLeast}
use Rattle.replay_model.specs.Tests.{Test, FirstHolds, charge_tests, early_tests, late_tests}
use Rattle.replay_model.proofs.Options.{same_some}
use Rattle.cfs_model.specs.declared.act.Way.TheVariants.{Stays, Sleeps, Ends}
use Rattle.cfs_model.specs.declared.charge_line.ChargeLine.{ChargeLine}
use Rattle.cfs_model.specs.declared.claim.Claim.{Claim}
use Rattle.cfs_model.specs.declared.kind.Kind.{Kind}
use Rattle.cfs_model.specs.declared.nice_line.NiceLine.{NiceLine}
use Rattle.cfs_model.specs.declared.task.Place.TheVariants.{Run}
use Rattle.replay_model.specs.declared.step.Deed.{Deed}
use Rattle.replay_model.specs.declared.step.Deed.TheVariants.{Switch, Wake, Born, Leave, Arrive}
use Rattle.replay_model.specs.declared.step.Step.{Step}

-- a condition holds of at most one pid
abbrev pub OfOne : (ℕ → Type 0) → Type 0
OfOne holds = (p q : ℕ) → holds p → holds q → p ≡ q

both : (e p q : ℕ) → p ≡ e → q ≡ e → p ≡ q
both e p q h k = h ∙ sym k

-- each test of a list does
abbrev pub EachOfOne : List Test → Type 0
EachOfOne [] = ⊤
EachOfOne (test ∷ tests) = OfOne test.holds × EachOfOne tests

-- the first that holds is one
pub one_first : (tests : List Test) → EachOfOne tests → (kind other : Kind) (p q : ℕ) → FirstHolds tests kind p
    → FirstHolds tests other q → (kind ≡ other) × (p ≡ q)
one_first [] one kind other p q h k = absurd h
one_first (test ∷ tests) one kind other p q (inl h) (inl k) = (h.1 ∙ sym k.1, one.0 p q h.0 k.0)
one_first (test ∷ tests) one kind other p q (inl h) (inr k) = absurd (k.0 p h.0)
one_first (test ∷ tests) one kind other p q (inr h) (inl k) = absurd (h.0 q k.0)
one_first (test ∷ tests) one kind other p q (inr h) (inr k) = one_first tests one.1 kind other p q h.1 k.1

idle_one : (slack : ℕ) (since : Option ℕ) (time : ℕ) → OfOne (IsIdleTooLong slack since time)
idle_one slack None time p q h k = absurd h
idle_one slack (Some x) time p q h k = both 0 p q h.1 k.1

range_one : (part : Part) (time : ℕ) → OneRunsIn part → OfOne (IsOutOfRange part time)
range_one part time one p q h k = one p q (runs p h) (runs q k)
  where
    runs : (pid : ℕ) → IsOutOfRange part time pid → IsIn part Run pid
    runs pid h = ap (option_map (λ (s : Entity). s.place)) h.stands ∙ ap Some h.runs

charge_one : (bound : ℕ) (part : Part) (time : ℕ) (charge : Option ChargeLine)
    → OfOne (IsWrongCharge bound part time charge)
charge_one bound part time None p q h k = absurd h
charge_one bound part time (Some charge) p q h k = both charge.pid p q h.1 k.1

nice_one : (part : Part) (change : Option NiceLine) → OfOne (IsStrangeNice part change)
nice_one part None p q h k = absurd h
nice_one part (Some change) p q h k = both change.pid p q h.1 k.1

module _ (cpu : ℕ) (part : Part) where
  home_one : (deed : Deed) → OfOne (IsMoveHome cpu deed)
  home_one (Switch prev pn way next nn) p q h k = absurd h
  home_one (Wake task nice) p q h k = absurd h
  home_one (Born task nice policy) p q h k = absurd h
  home_one (Leave task nice dest) p q h k = both task p q h.1 k.1
  home_one (Arrive task nice orig policy) p q h k = absurd h

  self_one : (deed : Deed) → OfOne (IsSelfSwitch deed)
  self_one (Switch prev pn way next nn) p q h k = both prev p q h.1 k.1
  self_one (Wake task nice) p q h k = absurd h
  self_one (Born task nice policy) p q h k = absurd h
  self_one (Leave task nice dest) p q h k = absurd h
  self_one (Arrive task nice orig policy) p q h k = absurd h

  prev_one : (deed : Deed) → OfOne (IsPrevNotRunning part deed)
  prev_one (Switch prev pn way next nn) p q h k = both prev p q h.1 k.1
  prev_one (Wake task nice) p q h k = absurd h
  prev_one (Born task nice policy) p q h k = absurd h
  prev_one (Leave task nice dest) p q h k = absurd h
  prev_one (Arrive task nice orig policy) p q h k = absurd h

  strange_one : (deed : Deed) → OfOne (IsStrange part deed)
  strange_one (Switch prev pn way next nn) p q h k = absurd h
  strange_one (Wake task nice) p q h k = both task p q h.1 k.1
  strange_one (Born task nice policy) p q h k = absurd h
  strange_one (Leave task nice dest) p q h k = both task p q h.1 k.1
  strange_one (Arrive task nice orig policy) p q h k = absurd h

  already_one : (deed : Deed) → OfOne (IsAlready part deed)
  already_one (Switch prev pn way next nn) p q h k = absurd h
  already_one (Wake task nice) p q h k = absurd h
  already_one (Born task nice policy) p q h k = both task p q h.1 k.1
  already_one (Leave task nice dest) p q h k = absurd h
  already_one (Arrive task nice orig policy) p q h k = both task p q h.1 k.1

  running_one : (deed : Deed) → OfOne (IsMoveRunning part deed)
  running_one (Switch prev pn way next nn) p q h k = absurd h
  running_one (Wake task nice) p q h k = absurd h
  running_one (Born task nice policy) p q h k = absurd h
  running_one (Leave task nice dest) p q h k = both task p q h.1 k.1
  running_one (Arrive task nice orig policy) p q h k = absurd h

  prio_one : (deed : Deed) → OfOne (IsWrongPrio part deed)
  prio_one (Switch prev pn way next nn) p q (inl h) (inl k) = both prev p q h.1 k.1
  prio_one (Switch prev pn way next nn) p q (inl h) (inr k) = absurd (k.0 h.0)
  prio_one (Switch prev pn way next nn) p q (inr h) (inl k) = absurd (h.0 k.0)
  prio_one (Switch prev pn way next nn) p q (inr h) (inr k) = both next p q h.2 k.2
  prio_one (Wake task nice) p q h k = both task p q h.1 k.1
  prio_one (Born task nice policy) p q h k = absurd h
  prio_one (Leave task nice dest) p q h k = both task p q h.1 k.1
  prio_one (Arrive task nice orig policy) p q h k = absurd h

  missing_one : (deed : Deed) (claim : Option Claim) → OfOne (IsClaimMissing part deed claim)
  missing_one deed claim p q h k = same_some (claimant part deed) p q h.0 k.0

  extra_one : (deed : Deed) (claim : Option Claim) → OfOne (IsClaimExtra part deed claim)
  extra_one (Leave task nice dest) claim p q h k = absurd h
  extra_one (Switch prev pn way next nn) None p q h k = absurd h
  extra_one (Wake task nice) None p q h k = absurd h
  extra_one (Born task nice policy) None p q h k = absurd h
  extra_one (Arrive task nice orig policy) None p q h k = absurd h
  extra_one (Switch prev pn way next nn) (Some claim) p q h k = both claim.pid p q h.1 k.1
  extra_one (Wake task nice) (Some claim) p q h k = both claim.pid p q h.1 k.1
  extra_one (Born task nice policy) (Some claim) p q h k = both claim.pid p q h.1 k.1
  extra_one (Arrive task nice orig policy) (Some claim) p q h k = both claim.pid p q h.1 k.1

  other_one : (deed : Deed) (claim : Option Claim) → OfOne (IsClaimPid part deed claim)
  other_one deed None p q h k = absurd h
  other_one deed (Some claim) p q h k = both claim.pid p q h.1 k.1

  put_back_one : (deed : Deed) (claim : Option Claim) → OfOne (IsWrongPutBack part deed claim)
  put_back_one (Switch zero pn way next nn) claim p q h k = absurd h
  put_back_one (Switch (suc n) pn Stays next nn) None p q h k = absurd h
  put_back_one (Switch (suc n) pn Stays next nn) (Some claim) p q h k = both (suc n) p q h.1 k.1
  put_back_one (Switch (suc n) pn Sleeps next nn) claim p q h k = absurd h
  put_back_one (Switch (suc n) pn Ends next nn) claim p q h k = absurd h
  put_back_one (Wake task nice) claim p q h k = absurd h
  put_back_one (Born task nice policy) claim p q h k = absurd h
  put_back_one (Leave task nice dest) claim p q h k = absurd h
  put_back_one (Arrive task nice orig policy) claim p q h k = absurd h

  wake_one : (credit : ℕ) (deed : Deed) (claim : Option Claim) → OfOne (IsWakeOutside credit part deed claim)
  wake_one credit (Switch prev pn way next nn) claim p q h k = absurd h
  wake_one credit (Wake task nice) None p q h k = absurd h
  wake_one credit (Wake task nice) (Some claim) p q h k = both task p q h.1 k.1
  wake_one credit (Born task nice policy) claim p q h k = absurd h
  wake_one credit (Leave task nice dest) claim p q h k = absurd h
  wake_one credit (Arrive task nice orig policy) claim p q h k = absurd h

  fork_one : (debit : ℕ) (deed : Deed) (claim : Option Claim) → OfOne (IsForkOutside debit part deed claim)
  fork_one debit (Switch prev pn way next nn) claim p q h k = absurd h
  fork_one debit (Wake task nice) claim p q h k = absurd h
  fork_one debit (Born task nice policy) None p q h k = absurd h
  fork_one debit (Born task nice policy) (Some claim) p q h k = both task p q h.1 k.1
  fork_one debit (Leave task nice dest) claim p q h k = absurd h
  fork_one debit (Arrive task nice orig policy) claim p q h k = absurd h

  next_one : (deed : Deed) → OfOne (IsNextNotWaiting part deed)
  next_one (Switch prev pn way zero nn) p q h k = absurd h
  next_one (Switch prev pn way (suc n) nn) p q h k = both (suc n) p q h.1 k.1
  next_one (Wake task nice) p q h k = absurd h
  next_one (Born task nice policy) p q h k = absurd h
  next_one (Leave task nice dest) p q h k = absurd h
  next_one (Arrive task nice orig policy) p q h k = absurd h

  beside_one : (deed : Deed) → OfOne (IsIdleBesideWaiting part deed)
  beside_one (Switch prev pn way zero nn) p q h k = both 0 p q h.1 k.1
  beside_one (Switch prev pn way (suc n) nn) p q h k = absurd h
  beside_one (Wake task nice) p q h k = absurd h
  beside_one (Born task nice policy) p q h k = absurd h
  beside_one (Leave task nice dest) p q h k = absurd h
  beside_one (Arrive task nice orig policy) p q h k = absurd h

  least_one : (granularity : ℕ) (deed : Deed) → OfOne (IsNotLeast granularity part deed)
  least_one granularity (Switch prev pn way zero nn) p q h k = absurd h
  least_one granularity (Switch prev pn way (suc n) nn) p q h k = both (suc n) p q h.1 k.1
  least_one granularity (Wake task nice) p q h k = absurd h
  least_one granularity (Born task nice policy) p q h k = absurd h
  least_one granularity (Leave task nice dest) p q h k = absurd h
  least_one granularity (Arrive task nice orig policy) p q h k = absurd h

pub charges_one : (knobs : KnobsView) (part : Part) (step : Step) → OneRunsIn part
    → EachOfOne (charge_tests knobs part step)
charges_one knobs part step one =
    (range_one part step.time one, (charge_one knobs.drift part step.time step.charge, tt))

pub early_one : (knobs : KnobsView) (since : Option ℕ) (part : Part) (step : Step) → OneRunsIn part
    → EachOfOne (early_tests knobs since part step)
early_one knobs since part step one = (
  idle_one knobs.slack since step.time,
  charges_one knobs part step one,
)

pub late_one : (knobs : KnobsView) (cpu : ℕ) (part : Part) (step : Step) → EachOfOne (late_tests knobs cpu part step)
late_one knobs cpu part step =
    let d = step.deed in let c = step.claim in (
      nice_one part step.nice,
      (
        home_one cpu part d,
        (
          self_one cpu part d,
          (
            prev_one cpu part d,
            (
              strange_one cpu part d,
              (
                already_one cpu part d,
                (
                  running_one cpu part d,
                  (
                    prio_one cpu part d,
                    (
                      missing_one cpu part d c,
                      (
                        extra_one cpu part d c,
                        (
                          other_one cpu part d c,
                          (
                            put_back_one cpu part d c,
                            (
                              wake_one cpu part knobs.credit d c,
                              (
                                fork_one cpu part knobs.debit d c,
                                (
                                  next_one cpu part d,
                                  (beside_one cpu part d, (least_one cpu part knobs.granularity d, tt)),
                                ),
                              ),
                            ),
                          ),
                        ),
                      ),
                    ),
                  ),
                ),
              ),
            ),
          ),
        ),
      ),
    )
