-- Small recordings against the definitions of a step and of a run (this project's profile), each both ways: the value
-- at which there is a step, and that there is none at any other.
use Rattle.std.specs.Prelude.{◌≡◌, ℕ, ◌≤◌, ℤ, pos, ◌≤ℤ◌, ◌↔◌, Some, None, List, [], ◌∷◌}
use Rattle.cfs_model.specs.Knobs.{KnobsView}
use Rattle.cfs_model.specs.Machine.{Machine}
use Rattle.cfs_model.specs.Start.{start_machine, policies_at_start}
use Rattle.cfs_model.specs.Claimed.{Claimed, claimed, policy_in}
use Rattle.cfs_model.specs.Step.{IsStep}
use Rattle.cfs_model.specs.Run.{IsRun}
use Rattle.cfs_model.specs.declared.act.Act.TheVariants.{Switch, Wake, Born, Shift}
use Rattle.cfs_model.specs.declared.act.Entry.{Entry}
use Rattle.cfs_model.specs.declared.act.Way.{Way}
use Rattle.cfs_model.specs.declared.act.Way.TheVariants.{Stays, Ends}
use Rattle.cfs_model.specs.declared.claim.Claim.{Claim}
use Rattle.cfs_model.specs.declared.claim.ClaimSort.TheVariants.{At}
use Rattle.cfs_model.specs.declared.idle_line.IdleLine.{IdleLine}
use Rattle.cfs_model.specs.declared.task.Place.TheVariants.{Run, Wait, Rest}
use Rattle.cfs_model.specs.declared.task.Task.{Task}
use Rattle.cfs_model.specs.declared.policy.Policy.{Policy}
use Rattle.cfs_model.specs.declared.policy.Policy.TheVariants.{Normal, Idle}

-- the default settings, but for the granularity
abbrev pub standard_with : ℕ → KnobsView
standard_with granularity = record {
  granularity = granularity;
  credit = 3000000;
  debit = 3000000;
  slack = 100000;
  drift = 0;
}

-- the default settings
abbrev pub standard : KnobsView
standard = standard_with 1000000

-- the default settings, but for a drift of 1 ms
abbrev pub drifting : KnobsView
drifting = record standard { drift = 1000000 }

-- a machine has a next one by an event
abbrev pub HasStep : KnobsView → Machine → Claimed → Type 0
HasStep knobs before event = (after : Machine) × IsStep knobs before event after

-- a claim of an enqueue
abbrev pub at_claim : ℕ → ℕ → ℤ → Claim
at_claim line pid v = record { line = line; pid = pid; v = v; sort = At }

-- the start of the recordings, 100 s
abbrev pub start_time : ℕ
start_time = 100000000000

-- one processor, where 101 runs at 0 with a nice value and a policy, and 102 waits at u
abbrev pub switch_start : ℤ → Policy → ℤ → Machine
switch_start nice policy u = start_machine start_time (pos 0 ∷ []) (
    record { pid = 101; nice = nice; policy = policy; cpu = 0; place = Run; v = pos 0 }
    ∷ record { pid = 102; nice = pos 0; policy = Normal; cpu = 0; place = Wait; v = u } ∷ [])

-- 4 ms later it goes from 101, which stays, to 102; the claim puts 101 back at w
abbrev pub switch_event : ℤ → ℤ → Claimed
switch_event nice w = record {
  entry = record { line = 1; time = 100004000000; act = Switch 0 101 nice Stays 102 (pos 0) };
  claim = Some (at_claim 1 101 w);
  nice = None;
  charge = None;
  policy = Normal;
}

-- 101 was charged 4 ms, and is put back at just that
abbrev pub PutBackExample : Type 0
PutBackExample = (w : ℤ)
    → HasStep standard (switch_start (pos 0) Normal (pos 0)) (switch_event (pos 0) w) ↔ (w ≡ pos 4000000)

-- where the companion tells that 101 is charged up to a virtual runtime
abbrev pub told_event : ℤ → ℤ → Claimed
told_event told w = record (switch_event (pos 0) w) { charge = Some (record { line = 1; pid = 101; v = told }) }

-- the exact charge is 4 ms; a drift of 1 ms allows for 3 to 5, and 101 is put back at just what is told
abbrev pub ToldExample : Type 0
ToldExample = (told w : ℤ)
    → HasStep drifting (switch_start (pos 0) Normal (pos 0)) (told_event told w)
    ↔ ((pos 3000000 ≤ℤ told) × (told ≤ℤ pos 5000000) × (w ≡ told))

-- at nice 5, whose weight is 335, the charge is 4 ms * 1024 / 335, rounded down
abbrev pub NiceExample : Type 0
NiceExample = (w : ℤ)
    → HasStep standard (switch_start (pos 5) Normal (pos 0)) (switch_event (pos 5) w) ↔ (w ≡ pos 12226865)

-- at weight 3, that of the idle policy, at just 4000000 * 1024 / 3, rounded down, whatever its nice value
abbrev pub IdlePolicyExample : Type 0
IdlePolicyExample = (nice w : ℤ)
    → HasStep standard (switch_start nice Idle (pos 0)) (switch_event nice w) ↔ (w ≡ pos 1365333333)

-- where 102 waits at 5 ms, the task that was put back is the least, and 102 is 1 ms above it
abbrev pub PickExample : Type 0
PickExample = (granularity : ℕ)
    → HasStep (standard_with granularity) (switch_start (pos 0) Normal (pos 5000000))
    (switch_event (pos 0) (pos 4000000))
    ↔ (1000000 ≤ granularity)

-- 4 ms after the start 101 is woken while it runs, printed with a nice value, and the companion says that its nice
-- value is 5 from then on; 4 ms later the processor goes from 101, which stays, to 102, and the claim puts 101 back at
-- w
abbrev pub nice_events : ℤ → ℤ → List Claimed
nice_events printed w =
    claimed (at_claim 2 101 w ∷ []) (record { line = 1; pid = 101; nice = pos 5 } ∷ []) [] (λ entry. Normal) (
    record { line = 1; time = 100004000000; act = Wake 0 101 printed }
    ∷ record { line = 2; time = 100008000000; act = Switch 0 101 (pos 5) Stays 102 (pos 0) } ∷ [])

-- the first 4 ms are charged by the old nice value, 0, the event prints the new one, and the next 4 ms are charged by
-- it
abbrev pub NiceChangeExample : Type 0
NiceChangeExample = (printed w : ℤ)
    → IsRun standard start_time (switch_start (pos 0) Normal (pos 0)) (nice_events printed w)
    ↔ ((printed ≡ pos 5) × (w ≡ pos 16226865))

-- two processors with floors 3 and 100, where 101 waits at 5 at the first and 102 runs there at 3
abbrev pub migration_start : Machine
migration_start = start_machine start_time (pos 3 ∷ pos 100 ∷ []) (
    record { pid = 101; nice = pos 0; policy = Normal; cpu = 0; place = Wait; v = pos 5 }
    ∷ record { pid = 102; nice = pos 0; policy = Normal; cpu = 0; place = Run; v = pos 3 } ∷ [])

-- 101 moves to the second; the claim places it at w
abbrev pub migration_event : ℕ → ℤ → Claimed
migration_event time w = record {
  entry = record { line = 1; time = time; act = Shift 0 1 101 (pos 0) };
  claim = Some (at_claim 1 101 w);
  nice = None;
  charge = None;
  policy = Normal;
}

-- at once: 5, less the first floor, and above the second
abbrev pub MigrationExample : Type 0
MigrationExample = (w : ℤ) → HasStep standard migration_start (migration_event start_time w) ↔ (w ≡ pos 102)

-- a microsecond later, when 102 has passed 101 and the first floor is 5
abbrev pub LaterMigrationExample : Type 0
LaterMigrationExample = (w : ℤ) → HasStep standard migration_start (migration_event 100000001000 w) ↔ (w ≡ pos 100)

-- 101 moves from the first to the second, printed with a nice value, and the claim places it at w; the companion says
-- that the nice value of a task is 5 from then on
abbrev pub renicing_migration : ℕ → ℤ → ℤ → Claimed
renicing_migration pid printed w = record {
  entry = record { line = 1; time = start_time; act = Shift 0 1 101 printed };
  claim = Some (at_claim 1 101 w);
  nice = Some (record { line = 1; pid = pid; nice = pos 5 });
  charge = None;
  policy = Normal;
}

-- the task stands at the origin, so it prints the new value there; where it goes hangs on no nice value
abbrev pub MovedNiceExample : Type 0
MovedNiceExample = (printed w : ℤ)
    → HasStep standard migration_start (renicing_migration 101 printed w) ↔ ((printed ≡ pos 5) × (w ≡ pos 102))

-- the same but that 102 runs at the second
abbrev pub away_start : Machine
away_start = start_machine start_time (pos 3 ∷ pos 100 ∷ []) (
    record { pid = 101; nice = pos 0; policy = Normal; cpu = 0; place = Wait; v = pos 5 }
    ∷ record { pid = 102; nice = pos 0; policy = Normal; cpu = 1; place = Run; v = pos 3 } ∷ [])

-- the nice value of a task that stands at the destination doesn't change there
abbrev pub AwayNiceExample : Type 0
AwayNiceExample = (printed w : ℤ) → ¬ HasStep standard away_start (renicing_migration 102 printed w)

-- one processor with floor 10 ms, where 101 rests at 0
abbrev pub wake_start : Machine
wake_start = start_machine start_time (pos 10000000 ∷ []) (
    record { pid = 101; nice = pos 0; policy = Normal; cpu = 0; place = Rest; v = pos 0 } ∷ [])

-- 101 is woken; the claim places it at w
abbrev pub wake_event : ℤ → Claimed
wake_event w = record {
  entry = record { line = 1; time = start_time; act = Wake 0 101 (pos 0) };
  claim = Some (at_claim 1 101 w);
  nice = None;
  charge = None;
  policy = Normal;
}

-- from 3 ms below the floor to the floor
abbrev pub WakeExample : Type 0
WakeExample = (w : ℤ) → HasStep standard wake_start (wake_event w) ↔ ((pos 7000000 ≤ℤ w) × (w ≤ℤ pos 10000000))

-- one processor with floor 0, where 101 runs at 0 and 102 rests at 0
abbrev pub floor_start : Machine
floor_start = start_machine start_time (pos 0 ∷ []) (
    record { pid = 101; nice = pos 0; policy = Normal; cpu = 0; place = Run; v = pos 0 }
    ∷ record { pid = 102; nice = pos 0; policy = Normal; cpu = 0; place = Rest; v = pos 0 } ∷ [])

-- 4 ms later 102 is woken, where 101 is told to be charged 3.5 ms alone; the claim places 102 at w
abbrev pub floor_event : ℤ → Claimed
floor_event w = record {
  entry = record { line = 1; time = 100004000000; act = Wake 0 102 (pos 0) };
  claim = Some (at_claim 1 102 w);
  nice = None;
  charge = Some (record { line = 1; pid = 101; v = pos 3500000 });
  policy = Normal;
}

-- the floor follows the told charge: from 3 ms below 3.5 ms to it
abbrev pub ToldFloorExample : Type 0
ToldFloorExample = (w : ℤ) → HasStep drifting floor_start (floor_event w) ↔ ((pos 500000 ≤ℤ w) × (w ≤ℤ pos 3500000))

-- one processor, where 102 rests at 0
abbrev pub idle_start : Machine
idle_start = start_machine start_time (pos 0 ∷ []) (
    record { pid = 102; nice = pos 0; policy = Normal; cpu = 0; place = Rest; v = pos 0 } ∷ [])

-- 102 is woken 1 ms after the start and placed at 0, woken again 0.05 ms later, and picked at the time given
abbrev pub idle_events : ℕ → List Claimed
idle_events time = claimed (at_claim 1 102 (pos 0) ∷ []) [] [] (λ entry. Normal) (
    record { line = 1; time = 100001000000; act = Wake 0 102 (pos 0) }
    ∷ record { line = 2; time = 100001050000; act = Wake 0 102 (pos 0) }
    ∷ record { line = 3; time = time; act = Switch 0 0 (pos 0) Stays 102 (pos 0) } ∷ [])

-- the processor idles from the first wakeup on, and may do so for 0.1 ms
abbrev pub IdleExample : Type 0
IdleExample = (time : ℕ) → 100001050000 ≤ time
    → IsRun standard start_time idle_start (idle_events time) ↔ (time ≤ 100001100000)

-- two processors with floor 0, where 101 runs at the first
abbrev pub birth_start : Machine
birth_start = start_machine start_time (pos 0 ∷ pos 0 ∷ []) (
    record { pid = 101; nice = pos 0; policy = Normal; cpu = 0; place = Run; v = pos 0 } ∷ [])

-- 101 leaves the first in a way, and 1 ms later a task of that pid is born at the second; the claim places it at w
abbrev pub birth_events : Way → ℤ → List Claimed
birth_events way w = claimed (at_claim 2 101 w ∷ []) [] [] (λ entry. Normal) (
    record { line = 1; time = 100001000000; act = Switch 0 101 (pos 0) way 0 (pos 0) }
    ∷ record { line = 2; time = 100002000000; act = Born 1 101 (pos 0) } ∷ [])

-- the pid is free again only once its task has ended, and a new task is placed from the floor to 3 ms above it
abbrev pub BirthExample : Type 0
BirthExample = (way : Way) (w : ℤ)
    → IsRun standard start_time birth_start (birth_events way w) ↔ ((way ≡ Ends) × (pos 0 ≤ℤ w) × (w ≤ℤ pos 3000000))

-- one processor, where 101 runs at 0, of the idle policy or not, and 102 rests at 0
abbrev pub rebirth_tasks : Policy → List Task
rebirth_tasks policy =
    record { pid = 101; nice = pos 0; policy = policy; cpu = 0; place = Run; v = pos 0 }
    ∷ record { pid = 102; nice = pos 0; policy = Normal; cpu = 0; place = Rest; v = pos 0 } ∷ []

abbrev pub rebirth_start : Policy → Machine
rebirth_start policy = start_machine start_time (pos 0 ∷ []) (rebirth_tasks policy)

-- at once 101 ends, a task of that pid is born at nice 5, and it is picked; 4 ms later 102 is woken
abbrev pub rebirth_entries : List Entry
rebirth_entries =
    record { line = 1; time = start_time; act = Switch 0 101 (pos 0) Ends 0 (pos 0) }
    ∷ record { line = 2; time = start_time; act = Born 0 101 (pos 5) }
    ∷ record { line = 3; time = start_time; act = Switch 0 0 (pos 0) Stays 101 (pos 5) }
    ∷ record { line = 4; time = 100004000000; act = Wake 0 102 (pos 0) } ∷ []

-- the claims place the new task at 0 and 102 at w; the companion names who is of the idle policy
abbrev pub rebirth_events : Policy → List IdleLine → ℤ → List Claimed
rebirth_events policy idles w =
    claimed (at_claim 2 101 (pos 0) ∷ at_claim 4 102 w ∷ []) [] []
    (policy_in idles (policies_at_start (rebirth_tasks policy)) rebirth_entries) rebirth_entries

-- a task that is named at its birth is of the idle policy, whatever its pid was of before: 4 ms cost 1365333333, which
-- is then the floor, and 102 is placed from 3 ms below that to it
abbrev pub IdleBirthExample : Type 0
IdleBirthExample = (was : Policy) (w : ℤ)
    → IsRun standard start_time (rebirth_start was) (rebirth_events was (record { line = 2; pid = 101 } ∷ []) w)
    ↔ ((pos 1362333333 ≤ℤ w) × (w ≤ℤ pos 1365333333))

-- and one that isn't named weighs by its nice value: 4 ms at nice 5 cost 12226865
abbrev pub RebirthExample : Type 0
RebirthExample = (was : Policy) (w : ℤ)
    → IsRun standard start_time (rebirth_start was) (rebirth_events was [] w)
    ↔ ((pos 9226865 ≤ℤ w) × (w ≤ℤ pos 12226865))

-- 102 is born at the second processor and placed at w, where the companion says that the nice value of a task is 5 from
-- then on
abbrev pub strange_event : ℕ → ℤ → Claimed
strange_event pid w = record {
  entry = record { line = 1; time = 100001000000; act = Born 1 102 (pos 0) };
  claim = Some (at_claim 1 102 w);
  nice = Some (record { line = 1; pid = pid; nice = pos 5 });
  charge = None;
  policy = Normal;
}

-- no task stands there, not even the one that is only being born
abbrev pub StrangeNiceExample : Type 0
StrangeNiceExample = (pid : ℕ) (w : ℤ) → ¬ HasStep standard birth_start (strange_event pid w)

-- at the first processor 101 is put back at w, and nobody runs next
abbrev pub idle_switch : ℤ → Claimed
idle_switch w = record {
  entry = record { line = 1; time = 100001000000; act = Switch 0 101 (pos 0) Stays 0 (pos 0) };
  claim = Some (at_claim 1 101 w);
  nice = None;
  charge = None;
  policy = Normal;
}

-- a processor doesn't go idle beside the task that was just put back
abbrev pub IdleSwitchExample : Type 0
IdleSwitchExample = (w : ℤ) → ¬ HasStep standard birth_start (idle_switch w)
