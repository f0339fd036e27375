-- One event's step from a machine to the next. The values spoken of are those after the charge, the lift and the change
-- of a nice value. Source: sched-design-CFS.rst, "Few implementation details" (the task with the smallest virtual
-- runtime is run) and "The rbtree" (within a granularity of it; min_vruntime places newly activated tasks). The bounds
-- of a placement, the claims and what a migration keeps are this project's profile.
use Rattle.std.specs.Prelude.{◌≡◌, ◌≢◌, ℕ, zero, suc, Option, Some, None, ℤ, pos, ◌+ℤ◌, ◌-ℤ◌, ◌≤ℤ◌, ◌⊎◌, ⊤}
use Rattle.std.specs.Int.{int_max}
use Rattle.cfs_model.specs.Knobs.{KnobsView}
use Rattle.cfs_model.specs.Machine.{Machine, Stands, NobodyStands, IsQueued, AreValuesInRange, with_task, without_task}
use Rattle.cfs_model.specs.Machine.{with_move, with_runtime, with_nice, with_drift, with_policy}
use Rattle.cfs_model.specs.Machine.{without_values}
use Rattle.cfs_model.specs.Claimed.{Claimed, ClaimSays}
use Rattle.cfs_model.specs.Touch.{touched}
use Rattle.cfs_model.specs.Lifted.{IsLifted}
use Rattle.cfs_model.specs.Reniced.{home_of, IsReniced}
use Rattle.cfs_model.specs.declared.act.Act.{Act}
use Rattle.cfs_model.specs.declared.act.Act.TheVariants.{Switch, Wake, Born, Shift}
use Rattle.cfs_model.specs.declared.act.Way.{Way}
use Rattle.cfs_model.specs.declared.act.Way.TheVariants.{Stays, Sleeps, Ends}
use Rattle.cfs_model.specs.declared.claim.Claim.{Claim}
use Rattle.cfs_model.specs.declared.claim.ClaimSort.{ClaimSort}
use Rattle.cfs_model.specs.declared.claim.ClaimSort.TheVariants.{At, Pass}
use Rattle.cfs_model.specs.declared.task.Place.{Place}
use Rattle.cfs_model.specs.declared.task.Place.TheVariants.{Run, Wait, Rest}
use Rattle.cfs_model.specs.declared.policy.Policy.{Policy}

-- the pid is what runs at the processor; pid 0 where nobody does
abbrev pub IsCurrent : Machine → ℕ → ℕ → Type 0
IsCurrent m cpu zero = NobodyStands m Run cpu
IsCurrent m cpu (suc n) = Stands m Run cpu (suc n)

-- the printed nice value is the task's own; that of pid 0 isn't looked at
abbrev pub PrintsOwn : Machine → ℕ → ℤ → Type 0
PrintsOwn m zero nice = ⊤
PrintsOwn m (suc n) nice = m.nice (suc n) ≡ Some nice

-- a previous task that stays is claimed at just its virtual runtime; where prev is 0, sleeps or ends there is no claim
abbrev pub IsPutBack : Machine → ℕ → Way → Option Claim → Type 0
IsPutBack m (suc n) Stays claim = (v : ℤ) × (m.runtime (suc n) ≡ Some v) × ClaimSays claim At (suc n) v
IsPutBack m prev way claim = claim ≡ None

-- a previous task waits, rests or is gone
abbrev pub after_prev : Machine → ℕ → ℕ → Way → Machine
after_prev m cpu zero way = m
after_prev m cpu (suc n) Stays = with_move m (suc n) Run cpu Wait cpu
after_prev m cpu (suc n) Sleeps = with_move m (suc n) Run cpu Rest cpu
after_prev m cpu (suc n) Ends = without_values (without_task m Run cpu (suc n)) (suc n)

-- the next task waits at the processor, with a virtual runtime within the granularity of each that waits there; pid 0
-- needs that nobody waits there
abbrev pub IsPick : ℕ → Machine → ℕ → ℕ → Type 0
IsPick granularity m cpu zero = NobodyStands m Wait cpu
IsPick granularity m cpu (suc n) =
    (v : ℤ) × (m.runtime (suc n) ≡ Some v) × Stands m Wait cpu (suc n)
    × ((other : ℕ) (w : ℤ) → Stands m Wait cpu other → m.runtime other ≡ Some w → v ≤ℤ (w +ℤ pos granularity))

-- the next task runs
abbrev pub after_next : Machine → ℕ → ℕ → Machine
after_next m cpu zero = m
after_next m cpu (suc n) = with_move m (suc n) Wait cpu Run cpu

-- the processor goes from one task to another
pub record IsSwitch (knobs : KnobsView) (m : Machine) (cpu prev : ℕ) (prev_nice : ℤ) (way : Way) (next : ℕ)
    (next_nice : ℤ) (claim : Option Claim) (after : Machine) : Type 0 where
  pub differ : prev ≢ next
  pub current : IsCurrent m cpu prev
  pub prev_prio : PrintsOwn m prev prev_nice
  pub next_prio : PrintsOwn m next next_nice
  pub put_back : IsPutBack m prev way claim
  pub pick : IsPick knobs.granularity (after_prev m cpu prev way) cpu next
  pub result : after ≡ after_next (after_prev m cpu prev way) cpu next

-- a task that runs or waits is woken: nothing changes
pub record IsWakeQueued (m : Machine) (cpu pid : ℕ) (nice : ℤ) (claim : Option Claim) (after : Machine)
    : Type 0 where
  pub queued : IsQueued m cpu pid
  pub prio : m.nice pid ≡ Some nice
  pub no_claim : claim ≡ None
  pub result : after ≡ m

-- a task that rests is woken: it waits, with a virtual runtime from its own or the floor less the credit, whichever is
-- greater, to its own or the floor, whichever is greater
pub record IsWakeResting (knobs : KnobsView) (m : Machine) (cpu pid : ℕ) (nice : ℤ) (claim : Option Claim)
    (after : Machine) : Type 0 where
  pub rests : Stands m Rest cpu pid
  pub prio : m.nice pid ≡ Some nice
  pub own : ℤ
  pub runtime : m.runtime pid ≡ Some own
  pub placed : ℤ
  pub claimed : ClaimSays claim At pid placed
  pub from : int_max own (m.floor cpu -ℤ pos knobs.credit) ≤ℤ placed
  pub to : placed ≤ℤ int_max own (m.floor cpu)
  pub result : after ≡ with_runtime (with_move m pid Rest cpu Wait cpu) pid placed

-- a task that stands nowhere is born: it waits, with a virtual runtime from the floor to the floor and the debit, with
-- the policy told, and without a drift
pub record IsBirth (knobs : KnobsView) (m : Machine) (cpu pid : ℕ) (nice : ℤ) (claim : Option Claim) (policy : Policy)
    (after : Machine) : Type 0 where
  pub nowhere : (place : Place) (other : ℕ) → ¬ Stands m place other pid
  pub placed : ℤ
  pub claimed : ClaimSays claim At pid placed
  pub from : m.floor cpu ≤ℤ placed
  pub to : placed ≤ℤ (m.floor cpu +ℤ pos knobs.debit)
  pub result : after ≡ with_drift
      (with_policy (with_nice (with_runtime (with_task m Wait cpu pid) pid placed) pid nice) pid policy) pid (pos 0)

-- a task that waits moves by one sort of claim, one that rests by the other, and one that runs by none
abbrev pub MovesBy : Place → ClaimSort → Type 0
MovesBy Wait At = ⊤
MovesBy Rest Pass = ⊤
MovesBy _ _ = ⊥

-- a task moves: it keeps its place, and its virtual runtime less the floor; nice value and policy are those that are
-- told; and its drift begins anew
pub record IsMigration (m : Machine) (orig dest pid : ℕ) (nice : ℤ) (claim : Option Claim) (policy : Policy)
    (after : Machine)
    : Type 0 where
  pub differ : orig ≢ dest
  pub place : Place
  pub stands : Stands m place orig pid
  pub prio : m.nice pid ≡ Some nice
  pub policy_is : m.policy pid ≡ policy
  pub own : ℤ
  pub runtime : m.runtime pid ≡ Some own
  pub sort : ClaimSort
  pub moves : MovesBy place sort
  pub claimed : ClaimSays claim sort pid ((own -ℤ m.floor orig) +ℤ m.floor dest)
  pub result : after ≡ with_drift
      (with_runtime (with_move m pid place orig place dest) pid ((own -ℤ m.floor orig) +ℤ m.floor dest)) pid (pos 0)

-- what an event changes in the machine as it finds it
abbrev pub Changes : KnobsView → Machine → Act → Option Claim → Policy → Machine → Type 0
Changes knobs m (Switch cpu prev prev_nice way next next_nice) claim policy after =
    IsSwitch knobs m cpu prev prev_nice way next next_nice claim after
Changes knobs m (Wake cpu pid nice) claim policy after =
    IsWakeQueued m cpu pid nice claim after ⊎ IsWakeResting knobs m cpu pid nice claim after
Changes knobs m (Born cpu pid nice) claim policy after = IsBirth knobs m cpu pid nice claim policy after
Changes knobs m (Shift orig dest pid nice) claim policy after = IsMigration m orig dest pid nice claim policy after

-- the event leads from a machine to the next: by charges and lift, the change of a nice value and the event's own
-- change, and with every value in range
pub record IsStep (knobs : KnobsView) (before : Machine) (event : Claimed) (after : Machine) : Type 0 where
  pub lifted : Machine
  pub is_lifted : IsLifted knobs.drift event.entry.time event.charge (touched event.entry.act) before lifted
  pub found : Machine
  pub is_reniced : IsReniced (home_of event.entry.act) event.nice lifted found
  pub changes : Changes knobs found event.entry.act event.claim event.policy after
  pub in_range : AreValuesInRange after
