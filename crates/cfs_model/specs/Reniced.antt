-- The change of a task's nice value that the companion tells on an event's line. It takes effect between the charge,
-- which goes by the old value, and the event's own change, at which the new one is printed. Source:
-- sched-nice-design.rst (nice values); that a change is told on the line of an event where the task stands, and when it
-- takes effect, is this project's profile.
use Rattle.std.specs.Prelude.{◌≡◌, ℕ, Option, Some, None}
use Rattle.cfs_model.specs.Machine.{Machine, Stands, with_nice}
use Rattle.cfs_model.specs.declared.act.Act.{Act}
use Rattle.cfs_model.specs.declared.act.Act.TheVariants.{Switch, Wake, Born, Shift}
use Rattle.cfs_model.specs.declared.nice_line.NiceLine.{NiceLine}
use Rattle.cfs_model.specs.declared.task.Place.{Place}

-- the processor at which a task has to stand whose nice value changes: the one that the event touches, and of a
-- migration the origin
abbrev pub home_of : Act → ℕ
home_of (Switch cpu prev prev_nice way next next_nice) = cpu
home_of (Wake cpu pid nice) = cpu
home_of (Born cpu pid nice) = cpu
home_of (Shift orig dest pid nice) = orig

-- after is before with the nice value of a task changed that stands at the processor, or nothing changed
abbrev pub IsReniced : ℕ → Option NiceLine → Machine → Machine → Type 0
IsReniced cpu None before after = after ≡ before
IsReniced cpu (Some change) before after =
    ((place : Place) × Stands before place cpu change.pid) × (after ≡ with_nice before change.pid change.nice)
