-- The cut of a record that one processor sees (this project's profile).
use Rattle.std.specs.Prelude.{ℕ, ◌==◌, Bool, ℤ, pos, List, [], ◌∷◌, map, filter, slice_index_or}
use Rattle.std.specs.List.{list_any}
use Rattle.cfs_model.specs.Limits.{no_line}
use Rattle.cfs_model.specs.Claimed.{Claimed}
use Rattle.cfs_model.specs.Touch.{touched}
use Rattle.cfs_model.specs.declared.task.Task.{Task}
use Rattle.replay_model.specs.declared.step.Step.{Step}
use Rattle.replay_model.specs.StepAt.{step_at}

-- what a stream holds
pub record StreamView : Type 0 where
  pub cpu : ℕ
  pub tasks : List Task
  pub floor : ℤ
  pub start : ℕ
  pub steps : List Step
  -- of the whole record
  pub last_time : ℕ
  pub last_line : ℕ

-- the event touches the processor
abbrev pub touches : ℕ → Claimed → Bool
touches cpu event = list_any (λ other. other == cpu) (touched event.entry.act)

-- the steps of the events that touch the processor, in their order
abbrev pub steps_at : ℕ → List Claimed → List Step
steps_at cpu events = map (step_at cpu) (filter (touches cpu) events)

-- the time of the last event, or the start where there is none
abbrev pub last_time_of : ℕ → List Claimed → ℕ
last_time_of start [] = start
last_time_of start (event ∷ events) = last_time_of event.entry.time events

-- the line of the last event, or the one before where there is none
abbrev pub last_line_after : ℕ → List Claimed → ℕ
last_line_after line [] = line
last_line_after line (event ∷ events) = last_line_after event.entry.line events

-- the tasks that stand at the processor at the start
abbrev pub tasks_at : ℕ → List Task → List Task
tasks_at cpu tasks = filter (λ t. t.cpu == cpu) tasks

-- what a processor sees of a record
abbrev pub cut : ℕ → List ℤ → List Task → List Claimed → ℕ → StreamView
cut start floors tasks events cpu = record {
  cpu = cpu;
  tasks = tasks_at cpu tasks;
  floor = slice_index_or floors cpu (pos 0);
  start = start;
  steps = steps_at cpu events;
  last_time = last_time_of start events;
  last_line = last_line_after no_line events;
}
