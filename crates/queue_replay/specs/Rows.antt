-- The tests that each deed can fail, in their order: the others of the ordered list hold of no pid at that deed. What
-- becomes of a step whose processor is charged and lifted, and has the nice value that its line changes (this project's
-- profile).
use Rattle.std.specs.Prelude.{◌≡◌, ◌≢◌, ℕ, ⊤, Option, Some, None, Result, Ok, Err, List, [], ◌∷◌}
use Rattle.replay_model.specs.ClaimTests.{claimant, IsClaimMissing, IsWrongPutBack, IsWakeOutside, IsForkOutside}
use Rattle.replay_model.specs.ClaimTests.{IsNextNotWaiting, IsIdleBesideWaiting, IsNotLeast}
use Rattle.replay_model.specs.AfterDeed.{after_deed}
use Rattle.replay_model.specs.Part.{Part, Entity}
use Rattle.replay_model.specs.QueueTests.{IsMoveHome, IsSelfSwitch, IsPrevNotRunning, IsStrange, IsAlready}
use Rattle.replay_model.specs.QueueTests.{IsMoveRunning, IsWrongPrio}
use Rattle.replay_model.specs.Tests.{Test, NoneHolds, FirstHolds, late_tests}
use Rattle.replay_model.specs.declared.step.Deed.{Deed}
use Rattle.replay_model.specs.declared.step.Deed.TheVariants.{Switch, Wake, Born, Leave, Arrive}
use Rattle.replay_model.specs.declared.step.Step.{Step}
use Rattle.cfs_model.specs.Knobs.{KnobsView}
use Rattle.cfs_model.specs.declared.claim.Claim.{Claim}
use Rattle.cfs_model.specs.declared.claim.ClaimSort.TheVariants.{At}
use Rattle.cfs_model.specs.declared.kind.Kind.TheVariants as kind
use Rattle.queue_replay.specs.Counting.{ticket_by}
use Rattle.queue_replay.specs.FirstTest.{IsOn}
use Rattle.queue_replay.specs.Needing.{IsNeed}
use Rattle.queue_replay.specs.Picks.{IdlesBeside, IsAboveGranularity}
use Rattle.queue_replay.specs.declared.context_switch.ContextSwitch.{ContextSwitch}
use Rattle.queue_replay.specs.declared.outcome.Outcome.{Outcome}
use Rattle.queue_replay.specs.declared.outcome.Outcome.TheVariants.{Made, Failed}
use Rattle.runqueue.specs.Queue.{HoldsSame}
use Rattle.runqueue.specs.TaskRows.{with_pid}
use Rattle.runqueue.specs.declared.runqueue.Runqueue.{Runqueue}

-- a switch as a deed
abbrev pub switch_deed : ContextSwitch → Deed
switch_deed s = Switch s.prev s.prev_nice s.way s.next s.next_nice

-- the line has a claim of the sort `at`
abbrev pub HasClaimAt : Option Claim → Type 0
HasClaimAt None = ⊥
HasClaimAt (Some claim) = claim.sort ≡ At

-- a claim of this pid is needed, and the line has none of the sort `at`
abbrev pub IsUnclaimed : Option ℕ → Option Claim → ℕ → Type 0
IsUnclaimed needed claim pid = (needed ≡ Some pid) × (¬ HasClaimAt claim)

-- no claim is needed, and the line has one: it is the claim's pid
abbrev pub IsNeedless : Option ℕ → Option Claim → ℕ → Type 0
IsNeedless needed None pid = ⊥
IsNeedless needed (Some claim) pid = (needed ≡ None) × (pid ≡ claim.pid)

-- a claim is needed, and the line's names another task: it is the claim's pid
abbrev pub IsOfAnother : Option ℕ → Option Claim → ℕ → Type 0
IsOfAnother needed None pid = ⊥
IsOfAnother needed (Some claim) pid = ((task : ℕ) × (needed ≡ Some task) × (claim.pid ≢ task)) × (pid ≡ claim.pid)

-- the claim of a switch or a wakeup, where this pid needs one, or none does; before other tests
abbrev pub claim_tests : Option ℕ → Option Claim → List Test → List Test
claim_tests needed claim rest =
    record { kind = kind.ClaimMissing; holds = IsUnclaimed needed claim } ∷
    record { kind = kind.ClaimExtra; holds = IsNeedless needed claim } ∷
    record { kind = kind.ClaimPid; holds = IsOfAnother needed claim } ∷ rest

-- a switch's pick
abbrev pub pick_tests : KnobsView → Part → Deed → List Test
pick_tests knobs part deed =
    record { kind = kind.IdleBesideWaiting; holds = IsIdleBesideWaiting part deed } ∷
    record { kind = kind.NotLeast; holds = IsNotLeast knobs.granularity part deed } ∷ []

-- the same two on the part that the previous task has left, with the next task as it stood
abbrev pub moved_tests : ℕ → Option Entity → Part → ℕ → List Test
moved_tests granularity own moved next =
    record { kind = kind.IdleBesideWaiting; holds = IdlesBeside moved next } ∷
    record { kind = kind.NotLeast; holds = IsAboveGranularity granularity own moved next } ∷ []

-- a switch whose claim is as it is needed
abbrev pub moving_tests : KnobsView → Part → Deed → Option Claim → List Test
moving_tests knobs part deed claim =
    record { kind = kind.WrongPutBack; holds = IsWrongPutBack part deed claim } ∷
    record { kind = kind.NextNotWaiting; holds = IsNextNotWaiting part deed } ∷ pick_tests knobs part deed

-- a switch
abbrev pub switch_tests : KnobsView → Part → Deed → Option Claim → List Test
switch_tests knobs part deed claim =
    record { kind = kind.SelfSwitch; holds = IsSelfSwitch deed } ∷
    record { kind = kind.PrevNotRunning; holds = IsPrevNotRunning part deed } ∷
    record { kind = kind.WrongPrio; holds = IsWrongPrio part deed } ∷
    claim_tests (claimant part deed) claim (moving_tests knobs part deed claim)

-- a wakeup whose claim is as it is needed
abbrev pub bounds_tests : ℕ → Part → Deed → Option Claim → List Test
bounds_tests credit part deed claim =
    record { kind = kind.WakeBounds; holds = IsWakeOutside credit part deed claim } ∷ []

-- a wakeup
abbrev pub wake_tests : ℕ → Part → Deed → Option Claim → List Test
wake_tests credit part deed claim =
    record { kind = kind.Strange; holds = IsStrange part deed } ∷
    record { kind = kind.WrongPrio; holds = IsWrongPrio part deed } ∷
    claim_tests (claimant part deed) claim (bounds_tests credit part deed claim)

-- a birth, which always needs a claim
abbrev pub birth_tests : ℕ → Part → Deed → Option Claim → List Test
birth_tests debit part deed claim =
    record { kind = kind.Already; holds = IsAlready part deed } ∷
    record { kind = kind.ClaimMissing; holds = IsUnclaimed (claimant part deed) claim } ∷
    record { kind = kind.ClaimPid; holds = IsOfAnother (claimant part deed) claim } ∷
    record { kind = kind.ForkBounds; holds = IsForkOutside debit part deed claim } ∷ []

-- a task that leaves, whose claim is the destination's
abbrev pub leave_tests : ℕ → Part → Deed → List Test
leave_tests cpu part deed =
    record { kind = kind.MoveHome; holds = IsMoveHome cpu deed } ∷
    record { kind = kind.Strange; holds = IsStrange part deed } ∷
    record { kind = kind.MoveRunning; holds = IsMoveRunning part deed } ∷
    record { kind = kind.WrongPrio; holds = IsWrongPrio part deed } ∷ []

-- a task that comes, which always needs a claim, of either sort
abbrev pub arrival_tests : Part → Deed → Option Claim → List Test
arrival_tests part deed claim =
    record { kind = kind.Already; holds = IsAlready part deed } ∷
    record { kind = kind.ClaimMissing; holds = IsClaimMissing part deed claim } ∷
    record { kind = kind.ClaimPid; holds = IsOfAnother (claimant part deed) claim } ∷ []

-- a step passed its tests and its deed made this of the part, with this ticket and this need; or the fault of the first
-- test that it fails
abbrev pub IsTried : KnobsView → ℕ → Part → Step → Part → Outcome → Type 0
IsTried knobs cpu part step after (Made deed) =
    NoneHolds (late_tests knobs cpu part step) × (after ≡ after_deed part step.deed step.claim)
    × (deed.ticket ≡ ticket_by part step step.deed) × IsNeed part step.deed step.claim deed.need
IsTried knobs cpu part step after (Failed fault) =
    FirstHolds (late_tests knobs cpu part step) fault.kind fault.pid × IsOn step.line fault

-- the same of a step's deed alone, whatever its line changes
abbrev pub IsDeedTried : KnobsView → ℕ → Part → Step → Part → Outcome → Type 0
IsDeedTried knobs cpu part step after outcome = IsTried knobs cpu part (record step { nice = None }) after outcome

-- the pids that have a row at a runqueue, once a deed was made: one that comes has a row by then
abbrev pub pids_after : Deed → List ℕ → List ℕ
pids_after (Switch prev prev_nice way next next_nice) pids = pids
pids_after (Wake pid nice) pids = pids
pids_after (Born pid nice policy) pids = with_pid pid pids
pids_after (Leave pid nice dest) pids = pids
pids_after (Arrive pid nice orig policy) pids = with_pid pid pids

-- the deed made this of the pids that have a row, if the step was made
abbrev pub NamesMade : {E : Type 0} → Result Outcome E → Deed → Runqueue → Runqueue → Type 0
NamesMade (Ok (Made made)) deed old new = new.tasks.pids ≡ pids_after deed old.tasks.pids
NamesMade (Ok (Failed fault)) deed old new = ⊤
NamesMade (Err error) deed old new = ⊤

-- the map and the set of a runqueue hold what they did, unless the step was made
abbrev pub HoldsUnmade : {E : Type 0} → Result Outcome E → Runqueue → Runqueue → Type 0
HoldsUnmade (Ok (Made deed)) old new = ⊤
HoldsUnmade (Ok (Failed fault)) old new = HoldsSame old new
HoldsUnmade (Err error) old new = HoldsSame old new
