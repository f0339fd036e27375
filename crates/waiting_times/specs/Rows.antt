-- What a walk along the events knows of each task (this project's profile).
use Rattle.std.specs.Prelude.{ℕ, zero, suc, ◌+◌, ◌-◌, ◌*◌, ◌^◌, ◌<◌, ◌≤◌, ◌==◌, if◌then◌else◌, Some, None, List}
use Rattle.std.specs.Prelude.{[], ◌∷◌}
use Rattle.cfs_model.specs.declared.act.Act.{Act}
use Rattle.cfs_model.specs.declared.act.Act.TheVariants.{Switch, Wake, Born, Shift}
use Rattle.cfs_model.specs.declared.act.Entry.{Entry}
use Rattle.cfs_model.specs.declared.act.Way.{Way}
use Rattle.cfs_model.specs.declared.act.Way.TheVariants.{Stays, Sleeps, Ends}
use Rattle.cfs_model.specs.declared.task.Place.{Place}
use Rattle.cfs_model.specs.declared.task.Place.TheVariants.{Run, Wait as WaitPlace, Rest}
use Rattle.cfs_model.specs.declared.task.Task.{Task}
use Rattle.sched_record.specs.Record.{RecordView, record_last_time}
use Rattle.waiting_times.specs.Moments.{edge, moment_of}
use Rattle.waiting_times.specs.Waits.{duration, later}
use Rattle.waiting_times.specs.declared.moment.Moment.{Moment}
use Rattle.waiting_times.specs.declared.task_row.Stand.{Stand}
use Rattle.waiting_times.specs.declared.task_row.Stand.TheVariants.{Away, Runs, Waits}
use Rattle.waiting_times.specs.declared.task_row.TaskRow.{TaskRow}
use Rattle.waiting_times.specs.declared.task_waits.TaskWaits.{TaskWaits}
use Rattle.waiting_times.specs.declared.wait.Wait.{Wait}

-- of a task that isn't there
abbrev pub fresh : TaskRow
fresh = record { stand = Away; times = 0; total = 0; longest = None }

-- where a task stands that the start names in a place
abbrev pub stand_by : Moment → Place → Stand
stand_by start Run = Runs
stand_by start WaitPlace = Waits start
stand_by start Rest = Away

-- where a task stands that a switch takes off its processor
abbrev pub stand_left : Moment → Way → Stand
stand_left at Stays = Waits at
stand_left at Sleeps = Away
stand_left at Ends = Away

-- another place
abbrev pub standing_row : Stand → TaskRow → TaskRow
standing_row stand row = record row { stand = stand }

-- one wait more
abbrev pub with_wait : Wait → TaskRow → TaskRow
with_wait wait row = record {
  stand = row.stand;
  times = row.times + 1;
  total = row.total + duration wait;
  longest = Some (later duration row.longest wait);
}

-- a wait that ends, where it has this place
abbrev pub waited_by : Stand → Moment → TaskRow → TaskRow
waited_by Away at row = row
waited_by Runs at row = row
waited_by (Waits since) at row = with_wait (record { from = since; to = at }) row

-- the same where it has its own
abbrev pub waited : Moment → TaskRow → TaskRow
waited at row = waited_by row.stand at row

-- who is picked runs, and no longer waits
abbrev pub picked_row : Moment → TaskRow → TaskRow
picked_row at row = standing_row Runs (waited at row)

-- who is woken waits, unless it has another place than away
abbrev pub woken_by : Stand → Moment → TaskRow → TaskRow
woken_by Away at row = standing_row (Waits at) row
woken_by Runs at row = row
woken_by (Waits since) at row = row

abbrev pub woken_row : Moment → TaskRow → TaskRow
woken_row at row = woken_by row.stand at row

-- a change of the row of one pid, at another's
abbrev pub only : ℕ → ℕ → (TaskRow → TaskRow) → TaskRow → TaskRow
only pid changes change row = if pid == changes then change row else row

-- the same of rows by pid
abbrev pub changed : ℕ → (TaskRow → TaskRow) → (ℕ → TaskRow) → ℕ → TaskRow
changed changes change row_of pid = only pid changes change (row_of pid)

-- the previous task of a switch leaves its processor; pid 0 is none
abbrev pub left_by : ℕ → Moment → Way → ℕ → TaskRow → TaskRow
left_by pid at way zero row = row
left_by pid at way (suc n) row = only pid (suc n) (standing_row (stand_left at way)) row

-- the next one comes to it
abbrev pub picked_by : ℕ → Moment → ℕ → TaskRow → TaskRow
picked_by pid at zero row = row
picked_by pid at (suc n) row = only pid (suc n) (picked_row at) row

abbrev pub switched : ℕ → Moment → ℕ → Way → ℕ → TaskRow → TaskRow
switched pid at prev way next row = picked_by pid at next (left_by pid at way prev row)

-- what an event does to the row of a pid: a migration nothing
abbrev pub act_on : ℕ → Moment → Act → TaskRow → TaskRow
act_on pid at (Switch cpu prev prev_nice way next next_nice) row = switched pid at prev way next row
act_on pid at (Wake cpu other nice) row = only pid other (woken_row at) row
act_on pid at (Born cpu other nice) row = only pid other (standing_row (Waits at)) row
act_on pid at (Shift orig dest other nice) row = row

abbrev pub acted : ℕ → Entry → TaskRow → TaskRow
acted pid event row = act_on pid (moment_of event) event.act row

-- what events do in turn
abbrev pub along : ℕ → List Entry → TaskRow → TaskRow
along pid [] row = row
along pid (event ∷ events) row = along pid events (acted pid event row)

-- the places in which the start names tasks, in turn
abbrev pub at_start : Moment → List Task → TaskRow → ℕ → TaskRow
at_start start [] row pid = row
at_start start (task ∷ tasks) row pid =
    at_start start tasks (only pid task.pid (standing_row (stand_by start task.place)) row) pid

-- what is told of a pid at the end
abbrev pub told_of : Moment → ℕ → TaskRow → TaskWaits
told_of end pid row = record {
  pid = pid;
  times = (waited end row).times;
  total = (waited end row).total;
  longest = (waited end row).longest;
}

-- the row of a pid behind all events of a record
abbrev pub row_along : RecordView → ℕ → TaskRow
row_along r pid = along pid r.events (at_start (edge r.start) r.tasks fresh pid)

-- what is told of it
abbrev pub told_along : RecordView → ℕ → TaskWaits
told_along r pid = told_of (edge (record_last_time r)) pid (row_along r pid)

-- so many waits make at most this much
pub record IsWithin (n : ℕ) (row : TaskRow) : Type 0 where
  pub times : row.times ≤ n
  pub total : row.total ≤ n * 2 ^ 64

-- one wait more fits
pub record IsRoomy (row : TaskRow) : Type 0 where
  pub times : row.times < 2 ^ 64 - 1
  pub total : row.total < 2 ^ 128 - 2 ^ 64
