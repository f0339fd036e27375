-- The laws of told charges (this project's profile), as the contracts in src/told_laws.rt state them.
use Rattle.std.specs.Prelude.{◌≡◌, ℕ, ◌==◌, if◌then◌else◌, Option, Some, None, ℤ, pos, ◌+ℤ◌, ◌-ℤ◌, ◌↔◌, List}
use Rattle.std.specs.Prelude.{[], ◌∷◌, map}
use Rattle.std.specs.List.{AllByRecursion}
use Rattle.std.specs.Option.{option_map_or}
use Rattle.cfs_model.specs.Knobs.{KnobsView}
use Rattle.cfs_model.specs.Machine.{Machine, with_floor}
use Rattle.cfs_model.specs.Claimed.{Claimed}
use Rattle.cfs_model.specs.Told.{IsWithin}
use Rattle.cfs_model.specs.Lifted.{charged, charged_runtime, CanCharge, IsRaised, IsLifted}
use Rattle.cfs_model.specs.Reniced.{home_of}
use Rattle.cfs_model.specs.Step.{IsStep}
use Rattle.cfs_model.specs.Run.{AreSteps, IsRun, last_of}
use Rattle.cfs_model.specs.declared.act.Act.{Act}
use Rattle.cfs_model.specs.declared.act.Act.TheVariants.{Switch, Wake, Born, Shift}
use Rattle.cfs_model.specs.declared.charge_line.ChargeLine.{ChargeLine}

-- no charge is told on the event's line
abbrev pub IsUntold : Claimed → Type 0
IsUntold event = event.charge ≡ None

-- no task drifts
abbrev pub HasNoDrift : Machine → Type 0
HasNoDrift m = (pid : ℕ) → m.drift pid ≡ pos 0

-- where no charge is told, a run at some settings is one at every drift
abbrev pub UntoldIgnoresDrift : Type 0
UntoldIgnoresDrift = (knobs : KnobsView) (drift start : ℕ) (first : Machine) (events : List Claimed)
    → AllByRecursion IsUntold events → IsRun knobs start first events
    → IsRun (record knobs { drift = drift }) start first events

-- and in none of its states a task drifts
abbrev pub UntoldHasNoDrift : Type 0
UntoldHasNoDrift = (knobs : KnobsView) (start : ℕ) (first : Machine) (events : List Claimed)
    → HasNoDrift first → AllByRecursion IsUntold events → (run : IsRun knobs start first events)
    → AllByRecursion HasNoDrift run.states

-- after is before with one processor charged exactly and its floor raised
pub record IsExactlyLiftedAt (time cpu : ℕ) (before after : Machine) : Type 0 where
  pub can_charge : CanCharge before cpu time
  pub floor : ℤ
  pub raised : IsRaised (charged before cpu time) cpu floor
  pub result : after ≡ with_floor (charged before cpu time) cpu floor

-- after is before with each of these processors charged exactly and its floor raised, in turn
abbrev pub IsExactlyLifted : ℕ → List ℕ → Machine → Machine → Type 0
IsExactlyLifted time [] before after = after ≡ before
IsExactlyLifted time (cpu ∷ cpus) before after =
    (between : Machine) × IsExactlyLiftedAt time cpu before between × IsExactlyLifted time cpus between after

-- where no charge is told, each is charged exactly, whatever the bound
abbrev pub UntoldLiftsExactly : Type 0
UntoldLiftsExactly = (bound time : ℕ) (cpus : List ℕ) (before after : Machine)
    → IsLifted bound time None cpus before after ↔ IsExactlyLifted time cpus before after

-- an event without the charge that is told on its line
abbrev pub untold : Claimed → Claimed
untold event = record event { charge = None }

-- at drift 0 every told charge is the exact one: a run is one without the told charges, through the same states
abbrev pub NoDriftIsExact : Type 0
NoDriftIsExact = (knobs : KnobsView) (start : ℕ) (first : Machine) (events : List Claimed)
    → knobs.drift ≡ 0 → HasNoDrift first → (run : IsRun knobs start first events)
    → (exact : IsRun knobs start first (map untold events)) × (exact.states ≡ run.states)

-- the drift of every task is at most the bound, up or down
abbrev pub AreDriftsWithin : ℕ → Machine → Type 0
AreDriftsWithin bound m = (pid : ℕ) → IsWithin bound (m.drift pid)

-- in each state of a run every drift is within the setting, where it is at first
abbrev pub DriftsAreWithin : Type 0
DriftsAreWithin = (knobs : KnobsView) (start : ℕ) (first : Machine) (events : List Claimed)
    → AreDriftsWithin knobs.drift first → (run : IsRun knobs start first events)
    → AllByRecursion (AreDriftsWithin knobs.drift) run.states

-- by how much a task's virtual runtime as told on an event's line is above the exact one, from the machine before; 0
-- where none is told
abbrev pub stray_by : Machine → ℕ → ℕ → Option ChargeLine → ℕ → ℤ
stray_by m cpu time None pid = pos 0
stray_by m cpu time (Some charge) pid =
    if charge.pid == pid
    then option_map_or (λ exact. charge.v -ℤ exact) (charged_runtime m cpu time pid) (pos 0)
    else pos 0

-- the same, summed up over events and the states after them
abbrev pub strayed : Machine → List Claimed → List Machine → ℕ → ℤ
strayed before [] states pid = pos 0
strayed before (event ∷ events) [] pid = pos 0
strayed before (event ∷ events) (after ∷ states) pid =
    stray_by before (home_of event.entry.act) event.entry.time event.charge pid +ℤ strayed after events states pid

-- the event brings the pid to a processor: by its birth, or by a migration
abbrev pub Brings : Act → ℕ → Type 0
Brings (Switch cpu prev prev_nice way next next_nice) pid = ⊥
Brings (Wake cpu other nice) pid = ⊥
Brings (Born cpu other nice) pid = other ≡ pid
Brings (Shift orig dest other nice) pid = other ≡ pid

-- a task that comes to a processor begins without a drift
abbrev pub DriftsBeginAnew : Type 0
DriftsBeginAnew = (knobs : KnobsView) (before : Machine) (event : Claimed) (after : Machine) (pid : ℕ)
    → IsStep knobs before event after → Brings event.entry.act pid → after.drift pid ≡ pos 0

-- while no event brings the pid to a processor, over sleep and wakeup too, its drift grows by just what told charges
-- stray from exact ones
abbrev pub DriftAddsUp : Type 0
DriftAddsUp = (knobs : KnobsView) (first : Machine) (events : List Claimed) (states : List Machine) (pid : ℕ)
    → AllByRecursion (λ event. ¬ Brings event.entry.act pid) events → AreSteps knobs first events states
    → (last_of first states).drift pid ≡ first.drift pid +ℤ strayed first events states pid

-- so from where it has none they stray in sum by at most the setting
abbrev pub SumsAreWithin : Type 0
SumsAreWithin = (knobs : KnobsView) (first : Machine) (events : List Claimed) (states : List Machine) (pid : ℕ)
    → AllByRecursion (λ event. ¬ Brings event.entry.act pid) events → AreSteps knobs first events states
    → first.drift pid ≡ pos 0 → IsWithin knobs.drift (strayed first events states pid)
