-- The tasks that an event begins and ends, and the one that it is about (this project's profile).
use Rattle.std.specs.Prelude.{ℕ, suc, Option, Some, None}
use Rattle.cfs_model.specs.declared.act.Act.{Act}
use Rattle.cfs_model.specs.declared.act.Act.TheVariants.{Switch, Wake, Born, Shift}
use Rattle.cfs_model.specs.declared.act.Way.TheVariants.{Ends}

-- a birth begins its task
abbrev pub begun_by : Act → Option ℕ
begun_by (Born cpu pid nice) = Some pid
begun_by _ = None

-- a switch ends its previous task, if that ends
abbrev pub ended_by : Act → Option ℕ
ended_by (Switch cpu (suc n) prev_nice Ends next next_nice) = Some (suc n)
ended_by _ = None

-- the task that a wakeup, a birth or a migration names, and of a switch the previous one
abbrev pub subject_of : Act → ℕ
subject_of (Switch cpu prev prev_nice way next next_nice) = prev
subject_of (Wake cpu pid nice) = pid
subject_of (Born cpu pid nice) = pid
subject_of (Shift orig dest pid nice) = pid
