-- What can be wrong with a step at one processor: its claim, where it places a task, and which task it picks (this
-- project's profile). Each condition says of which pid it holds; the part is charged and lifted.
use Rattle.std.specs.Prelude.{◌≡◌, ◌≢◌, ℕ, zero, suc, Option, Some, None, ℤ, pos, ◌+ℤ◌, ◌-ℤ◌, ◌≤ℤ◌, ◌<ℤ◌, ⊤}
use Rattle.std.specs.Int.{int_max}
use Rattle.replay_model.specs.Part.{Part, Entity, IsIn, place_in}
use Rattle.replay_model.specs.Deeds.{part_after_prev}
use Rattle.cfs_model.specs.declared.act.Way.TheVariants.{Stays}
use Rattle.cfs_model.specs.declared.claim.Claim.{Claim}
use Rattle.cfs_model.specs.declared.claim.ClaimSort.TheVariants.{At}
use Rattle.cfs_model.specs.declared.task.Place.{Place}
use Rattle.cfs_model.specs.declared.task.Place.TheVariants.{Wait, Rest}
use Rattle.replay_model.specs.declared.step.Deed.{Deed}
use Rattle.replay_model.specs.declared.step.Deed.TheVariants.{Switch, Wake, Born, Leave, Arrive}

-- a pid in the place of rest
abbrev pub if_resting : ℕ → Option Place → Option ℕ
if_resting pid (Some Rest) = Some pid
if_resting pid _ = None

-- the pid of which the deed needs a claim, if it needs one: a previous task that stays, a woken task that rests, a
-- task that is born or comes. One that leaves is claimed at its destination
abbrev pub claimant : Part → Deed → Option ℕ
claimant part (Switch (suc n) prev_nice Stays next next_nice) = Some (suc n)
claimant part (Switch _ prev_nice _ next next_nice) = None
claimant part (Wake task nice) = if_resting task (place_in part task)
claimant part (Born task nice policy) = Some task
claimant part (Leave task nice dest) = None
claimant part (Arrive task nice orig policy) = Some task

-- the line has a claim of the sort that the deed can need: either for a task that comes, else `at`
abbrev pub HasClaim : Deed → Option Claim → Type 0
HasClaim deed None = ⊥
HasClaim (Arrive task nice orig policy) (Some claim) = ⊤
HasClaim _ (Some claim) = claim.sort ≡ At

-- a claim is needed, and the line has none that serves
abbrev pub IsClaimMissing : Part → Deed → Option Claim → ℕ → Type 0
IsClaimMissing part deed claim pid = (claimant part deed ≡ Some pid) × (¬ HasClaim deed claim)

-- no claim is needed, and the line has one: it is the claim's pid
abbrev pub IsClaimExtra : Part → Deed → Option Claim → ℕ → Type 0
IsClaimExtra part (Leave task nice dest) claim pid = ⊥
IsClaimExtra part deed None pid = ⊥
IsClaimExtra part deed (Some claim) pid = (claimant part deed ≡ None) × (pid ≡ claim.pid)

-- a claim is needed, and the line's names another task: it is the claim's pid
abbrev pub IsClaimPid : Part → Deed → Option Claim → ℕ → Type 0
IsClaimPid part deed None pid = ⊥
IsClaimPid part deed (Some claim) pid =
    ((task : ℕ) × (claimant part deed ≡ Some task) × (claim.pid ≢ task)) × (pid ≡ claim.pid)

-- a previous task that stays is claimed at another virtual runtime than its own
abbrev pub IsWrongPutBack : Part → Deed → Option Claim → ℕ → Type 0
IsWrongPutBack part (Switch (suc n) prev_nice Stays next next_nice) (Some claim) pid =
    ((s : Entity) × (part.tasks (suc n) ≡ Some s) × (claim.v ≢ s.runtime)) × (pid ≡ suc n)
IsWrongPutBack part deed claim pid = ⊥

-- a virtual runtime from the task's own or the floor less the credit, whichever is greater, to its own or the floor,
-- whichever is greater
abbrev pub IsInWakeBounds : ℕ → ℤ → ℤ → ℤ → Type 0
IsInWakeBounds credit floor own v = (int_max own (floor -ℤ pos credit) ≤ℤ v) × (v ≤ℤ int_max own floor)

-- a woken task that rests is claimed outside those bounds
abbrev pub IsWakeOutside : ℕ → Part → Deed → Option Claim → ℕ → Type 0
IsWakeOutside credit part (Wake task nice) (Some claim) pid =
    ((s : Entity) × (part.tasks task ≡ Some s) × (s.place ≡ Rest)
    × (¬ IsInWakeBounds credit part.floor s.runtime claim.v)) × (pid ≡ task)
IsWakeOutside credit part deed claim pid = ⊥

-- a virtual runtime from the floor to the floor and the debit
abbrev pub IsInForkBounds : ℕ → ℤ → ℤ → Type 0
IsInForkBounds debit floor v = (floor ≤ℤ v) × (v ≤ℤ (floor +ℤ pos debit))

-- a new task is claimed outside those bounds
abbrev pub IsForkOutside : ℕ → Part → Deed → Option Claim → ℕ → Type 0
IsForkOutside debit part (Born task nice policy) (Some claim) pid = (¬ IsInForkBounds debit part.floor claim.v)
    × (pid ≡ task)
IsForkOutside debit part deed claim pid = ⊥

-- the next task of a switch doesn't wait here
abbrev pub IsNextNotWaiting : Part → Deed → ℕ → Type 0
IsNextNotWaiting part (Switch prev prev_nice way (suc n) next_nice) pid = (¬ IsIn part Wait (suc n)) × (pid ≡ suc n)
IsNextNotWaiting part deed pid = ⊥

-- the processor goes idle, and somebody waits here, a previous task that stays among them
abbrev pub IsIdleBesideWaiting : Part → Deed → ℕ → Type 0
IsIdleBesideWaiting part (Switch prev prev_nice way zero next_nice) pid =
    ((other : ℕ) × IsIn (part_after_prev part prev way) Wait other) × (pid ≡ 0)
IsIdleBesideWaiting part deed pid = ⊥

-- the next task of a switch is above one that waits here by more than the granularity, a previous task that stays
-- among them
abbrev pub IsNotLeast : ℕ → Part → Deed → ℕ → Type 0
IsNotLeast granularity part (Switch prev prev_nice way (suc n) next_nice) pid =
    ((s t : Entity) × (other : ℕ) × (part.tasks (suc n) ≡ Some s)
    × ((part_after_prev part prev way).tasks other ≡ Some t) × (t.place ≡ Wait)
    × ((t.runtime +ℤ pos granularity) <ℤ s.runtime)) × (pid ≡ suc n)
IsNotLeast granularity part deed pid = ⊥
