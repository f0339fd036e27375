-- What a run did, in numbers: its events by their sort, and of each task how long it ran, what it was charged and how
-- often it was picked (this project's profile). Said of the machine's states, as a run is.
use Rattle.std.specs.Prelude.{◌≡◌, ℕ, suc, ◌+◌, ◌-◌, ◌==◌, not, Bool, true, false, if◌then◌else◌, List, [], ◌∷◌, ◌++◌}
use Rattle.std.specs.Prelude.{length, map, filter, sum, count_by, Option, Some, None, nat_abs, ◌-ℤ◌}
use Rattle.std.specs.Option.{option_map_or}
use Rattle.cfs_model.specs.Knobs.{KnobsView}
use Rattle.cfs_model.specs.Machine.{Machine}
use Rattle.cfs_model.specs.Claimed.{Claimed}
use Rattle.cfs_model.specs.Touch.{touched}
use Rattle.cfs_model.specs.Lifted.{cost_at}
use Rattle.cfs_model.specs.Reniced.{home_of}
use Rattle.cfs_model.specs.Run.{IsRun}
use Rattle.cfs_model.specs.declared.act.Act.{Act}
use Rattle.cfs_model.specs.declared.act.Act.TheVariants.{Switch, Born, Shift}
use Rattle.cfs_model.specs.declared.act.Way.TheVariants.{Ends}
use Rattle.cfs_model.specs.declared.charge_line.ChargeLine.{ChargeLine}
use Rattle.cfs_model.specs.declared.task.Task.{Task}
use Rattle.replay_model.specs.declared.page.Tally.{Tally}

pub record SummaryView : Type 0 where
  pub events : ℕ
  pub switches : ℕ
  pub migrations : ℕ
  pub births : ℕ
  pub deaths : ℕ
  -- one for each task that was named or born, in that order
  pub tallies : List Tally

abbrev pub is_switch : Act → Bool
is_switch (Switch cpu prev prev_nice way next next_nice) = true
is_switch _ = false

abbrev pub is_migration : Act → Bool
is_migration (Shift orig dest pid nice) = true
is_migration _ = false

abbrev pub is_birth : Act → Bool
is_birth (Born cpu pid nice) = true
is_birth _ = false

-- a switch whose previous task ends
abbrev pub is_death : Act → Bool
is_death (Switch cpu (suc n) prev_nice Ends next next_nice) = true
is_death _ = false

-- a switch to this task; one to pid 0 is to none
abbrev pub picks : ℕ → Act → Bool
picks pid (Switch cpu prev prev_nice way (suc n) next_nice) = suc n == pid
picks pid _ = false

-- how many of the events do this
abbrev pub how_many : (Act → Bool) → List Claimed → ℕ
how_many does events = count_by (λ event. does event.entry.act) events

-- how long a task that runs at a processor is charged for at a time: since the processor's mark
abbrev pub ran_at : Machine → ℕ → ℕ → ℕ → ℕ
ran_at m time pid cpu = if m.running cpu pid then time - m.mark cpu else 0

-- what a task is charged exactly at a processor and time, in virtual nanoseconds
abbrev pub exact_cost : Machine → ℕ → ℕ → ℕ → ℕ
exact_cost m time pid cpu = option_map_or (λ nice. cost_at m cpu time nice (m.policy pid)) (m.nice pid) 0

-- what it is charged up to the virtual runtime that is told of it, and else exactly
abbrev pub cost_as_told : Machine → ℕ → Option ChargeLine → ℕ → ℕ → ℕ
cost_as_told m time None pid cpu = exact_cost m time pid cpu
cost_as_told m time (Some charge) pid cpu =
    if charge.pid == pid
    then option_map_or (λ v. nat_abs (charge.v -ℤ v)) (m.runtime pid) 0
    else exact_cost m time pid cpu

-- the charge that is told at a processor: that on the event's line, where the event happens
abbrev pub told_at : Claimed → ℕ → Option ChargeLine
told_at event cpu = if home_of event.entry.act == cpu then event.charge else None

-- what a task that runs at a processor is charged by an event, in virtual nanoseconds
abbrev pub charged_at : Machine → Claimed → ℕ → ℕ → ℕ
charged_at m event pid cpu =
    if m.running cpu pid then cost_as_told m event.entry.time (told_at event cpu) pid cpu else 0

-- an amount that events add up to, from the machine before each and the processors that it touches
abbrev pub added_up : (Machine → Claimed → ℕ → ℕ) → Machine → List Claimed → List Machine → ℕ
added_up amount before [] states = 0
added_up amount before (event ∷ events) [] = 0
added_up amount before (event ∷ events) (after ∷ states) =
    sum (map (amount before event) (touched event.entry.act)) + added_up amount after events states

-- what a task did over the events and states of a run
abbrev pub tally_of : Machine → List Claimed → List Machine → ℕ → Tally
tally_of first events states pid = record {
  pid = pid;
  ran = added_up (λ m event cpu. ran_at m event.entry.time pid cpu) first events states;
  charged = added_up (λ m event cpu. charged_at m event pid cpu) first events states;
  picks = how_many (picks pid) events;
}

-- the task that an event gives birth to
abbrev pub born_by : Act → List ℕ
born_by (Born cpu pid nice) = pid ∷ []
born_by _ = []

abbrev pub born_in : List Claimed → List ℕ
born_in [] = []
born_in (event ∷ events) = born_by event.entry.act ++ born_in events

-- each pid at its first place alone
abbrev pub each_once : List ℕ → List ℕ
each_once [] = []
each_once (pid ∷ pids) = pid ∷ filter (λ other. not (other == pid)) (each_once pids)

-- the tasks of a run: those that the start names, then those that are born, each once
abbrev pub tasks_of_run : List Task → List Claimed → List ℕ
tasks_of_run tasks events = each_once (map (λ task. task.pid) tasks ++ born_in events)

-- the summary of events and the states after them
abbrev pub summary_of : Machine → List Task → List Claimed → List Machine → SummaryView
summary_of first tasks events states = record {
  events = length events;
  switches = how_many is_switch events;
  migrations = how_many is_migration events;
  births = how_many is_birth events;
  deaths = how_many is_death events;
  tallies = map (tally_of first events states) (tasks_of_run tasks events);
}

-- the events are a run, and this is its summary
pub record IsSummary (knobs : KnobsView) (start : ℕ) (first : Machine) (tasks : List Task) (events : List Claimed)
    (summary : SummaryView) : Type 0 where
  pub run : IsRun knobs start first events
  pub is : summary ≡ summary_of first tasks events run.states
