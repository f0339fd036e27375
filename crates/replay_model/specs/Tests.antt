-- The tests of one step at one processor, in their order: the first that holds is what is wrong with the step (this
-- project's profile).
use Rattle.std.specs.Prelude.{◌≡◌, ℕ, Option, ◌⊎◌, ⊤, List, [], ◌∷◌}
use Rattle.cfs_model.specs.Knobs.{KnobsView}
use Rattle.replay_model.specs.Part.{Part}
use Rattle.replay_model.specs.Found.{IsFound}
use Rattle.replay_model.specs.QueueTests.{IsIdleTooLong, IsOutOfRange, IsWrongCharge, IsStrangeNice, IsMoveHome}
use Rattle.replay_model.specs.QueueTests.{IsSelfSwitch, IsPrevNotRunning, IsStrange, IsAlready, IsMoveRunning}
use Rattle.replay_model.specs.QueueTests.{IsWrongPrio}
use Rattle.replay_model.specs.ClaimTests.{IsClaimMissing, IsClaimExtra, IsClaimPid, IsWrongPutBack, IsWakeOutside}
use Rattle.replay_model.specs.ClaimTests.{IsForkOutside, IsNextNotWaiting, IsIdleBesideWaiting, IsNotLeast}
use Rattle.cfs_model.specs.declared.kind.Kind.{Kind}
use Rattle.cfs_model.specs.declared.kind.Kind.TheVariants as kind
use Rattle.replay_model.specs.declared.step.Step.{Step}

-- a condition on pids, and the kind of fault that it is
pub record Test : Type 1 where
  pub kind : Kind
  pub holds : ℕ → Type 0

-- no test holds of any pid
abbrev pub NoneHolds : List Test → Type 0
NoneHolds [] = ⊤
NoneHolds (test ∷ tests) = ((pid : ℕ) → ¬ test.holds pid) × NoneHolds tests

-- the first test that holds is of this kind, and holds of this pid
abbrev pub FirstHolds : List Test → Kind → ℕ → Type 0
FirstHolds [] kind pid = ⊥
FirstHolds (test ∷ tests) kind pid =
    (test.holds pid × (kind ≡ test.kind)) ⊎ (((other : ℕ) → ¬ test.holds other) × FirstHolds tests kind pid)

-- the tests of the charge, before it is made: that of the exact one, and that of what is told in its place
abbrev pub charge_tests : KnobsView → Part → Step → List Test
charge_tests knobs part step =
    record { kind = kind.Range; holds = IsOutOfRange part step.time } ∷
    record { kind = kind.WrongCharge; holds = IsWrongCharge knobs.drift part step.time step.charge } ∷ []

-- the tests before the charge and the lift, where the processor has idled beside a waiting task since a time, or hasn't
abbrev pub early_tests : KnobsView → Option ℕ → Part → Step → List Test
early_tests knobs since part step =
    record { kind = kind.IdleTooLong; holds = IsIdleTooLong knobs.slack since step.time } ∷ charge_tests knobs part step

-- the tests after them, at this processor's part as the deed finds it
abbrev pub late_tests : KnobsView → ℕ → Part → Step → List Test
late_tests knobs cpu part step =
    record { kind = kind.Strange; holds = IsStrangeNice part step.nice } ∷
    record { kind = kind.MoveHome; holds = IsMoveHome cpu step.deed } ∷
    record { kind = kind.SelfSwitch; holds = IsSelfSwitch step.deed } ∷
    record { kind = kind.PrevNotRunning; holds = IsPrevNotRunning part step.deed } ∷
    record { kind = kind.Strange; holds = IsStrange part step.deed } ∷
    record { kind = kind.Already; holds = IsAlready part step.deed } ∷
    record { kind = kind.MoveRunning; holds = IsMoveRunning part step.deed } ∷
    record { kind = kind.WrongPrio; holds = IsWrongPrio part step.deed } ∷
    record { kind = kind.ClaimMissing; holds = IsClaimMissing part step.deed step.claim } ∷
    record { kind = kind.ClaimExtra; holds = IsClaimExtra part step.deed step.claim } ∷
    record { kind = kind.ClaimPid; holds = IsClaimPid part step.deed step.claim } ∷
    record { kind = kind.WrongPutBack; holds = IsWrongPutBack part step.deed step.claim } ∷
    record { kind = kind.WakeBounds; holds = IsWakeOutside knobs.credit part step.deed step.claim } ∷
    record { kind = kind.ForkBounds; holds = IsForkOutside knobs.debit part step.deed step.claim } ∷
    record { kind = kind.NextNotWaiting; holds = IsNextNotWaiting part step.deed } ∷
    record { kind = kind.IdleBesideWaiting; holds = IsIdleBesideWaiting part step.deed } ∷
    record { kind = kind.NotLeast; holds = IsNotLeast knobs.granularity part step.deed } ∷ []

-- no test on the part holds, and found is the part as the deed finds it
pub record PassesTests (knobs : KnobsView) (cpu : ℕ) (part : Part) (step : Step) (found : Part) : Type 0 where
  pub in_range : (pid : ℕ) → ¬ IsOutOfRange part step.time pid
  pub told : (pid : ℕ) → ¬ IsWrongCharge knobs.drift part step.time step.charge pid
  pub is_found : IsFound step part found
  pub none : NoneHolds (late_tests knobs cpu found step)
