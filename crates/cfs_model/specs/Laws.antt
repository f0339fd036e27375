-- The laws of steps and runs (this project's profile), as the contracts in src/laws.rt state them.
use Rattle.std.specs.Prelude.{◌≡◌, ◌≢◌, ℕ, ◌<◌, ◌++◌, ℤ, ◌≤ℤ◌, ◌↔◌, List, ◌∷◌, AllPairs}
use Rattle.std.specs.List.{AllByRecursion}
use Rattle.cfs_model.specs.Knobs.{KnobsView}
use Rattle.cfs_model.specs.Machine.{Machine}
use Rattle.cfs_model.specs.Start.{policies_at_start, start_machine}
use Rattle.cfs_model.specs.Claimed.{Claimed, nice_at, charge_at, policies_before, policy_in, claimed}
use Rattle.cfs_model.specs.Touch.{touched}
use Rattle.cfs_model.specs.Lifted.{IsLifted}
use Rattle.cfs_model.specs.Reniced.{home_of, IsReniced}
use Rattle.cfs_model.specs.Step.{IsStep}
use Rattle.cfs_model.specs.Run.{AreSteps, IsRun, IsFirstBad, last_of}
use Rattle.cfs_model.specs.Order.{IsInOrder, IsStart}
use Rattle.cfs_model.specs.Least.{AtMost, lesser, AreLeast, greatest_settings, IsFirstBadAtAll}
use Rattle.cfs_model.specs.declared.act.Act.TheVariants.{Shift}
use Rattle.cfs_model.specs.declared.act.Entry.{Entry}
use Rattle.cfs_model.specs.declared.charge_line.ChargeLine.{ChargeLine}
use Rattle.cfs_model.specs.declared.claim.Claim.{Claim}
use Rattle.cfs_model.specs.declared.idle_line.IdleLine.{IdleLine}
use Rattle.cfs_model.specs.declared.nice_line.NiceLine.{NiceLine}
use Rattle.cfs_model.specs.declared.task.Task.{Task}

-- from a machine, by one event, there is at most one next machine
abbrev pub OneNext : Type 0
OneNext = (knobs : KnobsView) (before : Machine) (event : Claimed) (after other : Machine)
    → IsStep knobs before event after → IsStep knobs before event other → after ≡ other

-- from a machine, by a list of events, there is at most one list of states
abbrev pub OneList : Type 0
OneList = (knobs : KnobsView) (first : Machine) (events : List Claimed) (states others : List Machine)
    → AreSteps knobs first events states → AreSteps knobs first events others → states ≡ others

-- every prefix of a run is a run
abbrev pub RunPrefix : Type 0
RunPrefix = (knobs : KnobsView) (start : ℕ) (first : Machine) (events rest : List Claimed)
    → IsRun knobs start first (events ++ rest) → IsRun knobs start first events

-- a step keeps the order of a machine
abbrev pub StepKeepsOrder : Type 0
StepKeepsOrder = (knobs : KnobsView) (before : Machine) (event : Claimed) (after : Machine)
    → IsInOrder before → IsStep knobs before event after → IsInOrder after

-- each state that a run reaches is in order, where the first is
abbrev pub RunKeepsOrder : Type 0
RunKeepsOrder = (knobs : KnobsView) (start : ℕ) (first : Machine) (events : List Claimed)
    → IsInOrder first → (run : IsRun knobs start first events) → AllByRecursion IsInOrder run.states

-- the start that a companion names is in order
abbrev pub StartInOrder : Type 0
StartInOrder = (start : ℕ) (floors : List ℤ) (tasks : List Task)
    → IsStart floors tasks → IsInOrder (start_machine start floors tasks)

-- a step lowers no floor
abbrev pub FloorsRise : Type 0
FloorsRise = (knobs : KnobsView) (before : Machine) (event : Claimed) (after : Machine)
    → IsStep knobs before event after → (cpu : ℕ) → before.floor cpu ≤ℤ after.floor cpu

-- after a step the mark of each touched processor is the event's time, and every other mark is as it was
abbrev pub MarksMove : Type 0
MarksMove = (knobs : KnobsView) (before : Machine) (event : Claimed) (after : Machine) → IsStep knobs before event after
    → AllByRecursion (λ cpu. after.mark cpu ≡ event.entry.time) (touched event.entry.act)
    × ((cpu : ℕ) → AllByRecursion (λ other. cpu ≢ other) (touched event.entry.act) → after.mark cpu ≡ before.mark cpu)

-- the events before an entry of a record whose lines rise lead to a machine in which each task has the policy that the
-- companion tells at the start and at the births before the entry's line
abbrev pub PoliciesAreTold : Type 0
PoliciesAreTold = (knobs : KnobsView) (start : ℕ) (floors : List ℤ) (tasks : List Task)
    (claims : List Claim) (nices : List NiceLine) (charges : List ChargeLine) (idles : List IdleLine)
    (before rest : List Entry) (entry : Entry)
    → AllPairs (λ a b. a.line < b.line) (before ++ entry ∷ rest)
    → (run : IsRun knobs start (start_machine start floors tasks)
    (claimed claims nices charges (policy_in idles (policies_at_start tasks) (before ++ entry ∷ rest)) before))
    → (last_of (start_machine start floors tasks) run.states).policy
    ≡ policies_before idles (policies_at_start tasks) (before ++ entry ∷ rest) entry.line

-- so the policy told of a task that moves is its own in the machine that the migration finds: what a migration asks of
-- the policy holds of every record
abbrev pub MoverKeepsPolicy : Type 0
MoverKeepsPolicy = (knobs : KnobsView) (start : ℕ) (floors : List ℤ) (tasks : List Task)
    (claims : List Claim) (nices : List NiceLine) (charges : List ChargeLine) (idles : List IdleLine)
    (before rest : List Entry) (entry : Entry)
    (orig dest pid : ℕ) (nice : ℤ) (lifted found : Machine)
    → AllPairs (λ a b. a.line < b.line) (before ++ entry ∷ rest)
    → (run : IsRun knobs start (start_machine start floors tasks)
    (claimed claims nices charges (policy_in idles (policies_at_start tasks) (before ++ entry ∷ rest)) before))
    → entry.act ≡ Shift orig dest pid nice
    → IsLifted knobs.drift entry.time (charge_at charges entry.line) (touched entry.act)
    (last_of (start_machine start floors tasks) run.states) lifted
    → IsReniced (home_of entry.act) (nice_at nices entry.line) lifted found
    → found.policy pid ≡ policy_in idles (policies_at_start tasks) (before ++ entry ∷ rest) entry

-- a run at some settings is one at more generous ones
abbrev pub MoreKeepsRun : Type 0
MoreKeepsRun = (less more : KnobsView) (start : ℕ) (first : Machine) (events : List Claimed)
    → AtMost less more → IsRun less start first events → IsRun more start first events

-- a run at two settings is one at the lesser of each of the five
abbrev pub LesserKeepsRun : Type 0
LesserKeepsRun = (one other : KnobsView) (start : ℕ) (first : Machine) (events : List Claimed)
    → IsRun one start first events → IsRun other start first events → IsRun (lesser one other) start first events

-- the states of a run are the same at any settings at which it is one
abbrev pub SameStates : Type 0
SameStates = (one other : KnobsView) (start : ℕ) (first : Machine) (events : List Claimed)
    → (run : IsRun one start first events) → (also : IsRun other start first events) → run.states ≡ also.states

-- there are at most one least settings
abbrev pub OneLeast : Type 0
OneLeast = (start : ℕ) (first : Machine) (events : List Claimed) (one other : KnobsView)
    → AreLeast start first events one → AreLeast start first events other → one ≡ other

-- the events are a run just at the settings that are at least the least
abbrev pub RunFromLeast : Type 0
RunFromLeast = (start : ℕ) (first : Machine) (events : List Claimed) (least other : KnobsView)
    → AreLeast start first events least → IsRun other start first events ↔ AtMost least other

-- the least settings of a prefix are at most those of the whole
abbrev pub LeastOfPrefix : Type 0
LeastOfPrefix = (start : ℕ) (first : Machine) (events rest : List Claimed) (front whole : KnobsView)
    → AreLeast start first events front → AreLeast start first (events ++ rest) whole → AtMost front whole

-- the first bad line at the greatest settings is the first one that no settings in range help
abbrev pub GreatestTellBadAtAll : Type 0
GreatestTellBadAtAll = (start : ℕ) (first : Machine) (events : List Claimed) (line : ℕ)
    → IsFirstBad greatest_settings start first events line → IsFirstBadAtAll start first events line
