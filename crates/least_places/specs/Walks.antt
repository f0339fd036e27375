-- How the crate finds the switch on a line, and the steps up to it; you needn't believe this.
use Rattle.std.specs.Prelude.{ℕ, suc, ◌==◌, nat_le, if◌then◌else◌, Option, Some, None, List, [], ◌∷◌}
use Rattle.cfs_model.specs.declared.act.Act.{Act}
use Rattle.cfs_model.specs.declared.act.Act.TheVariants.{Switch}
use Rattle.cfs_model.specs.declared.act.Entry.{Entry}
use Rattle.replay_model.specs.declared.step.Step.{Step}

-- the processor of a switch
abbrev pub switched_by : Act → Option ℕ
switched_by (Switch cpu prev prev_nice way next next_nice) = Some cpu
switched_by _ = None

-- that of the first event on a line, where it is a switch
abbrev pub switched_on_line : List Entry → ℕ → Option ℕ
switched_on_line [] line = None
switched_on_line (entry ∷ entries) line =
    if entry.line == line then switched_by entry.act else switched_on_line entries line

-- the number of steps up to a line and including it
abbrev pub steps_to : ℕ → List Step → ℕ
steps_to line [] = 0
steps_to line (step ∷ steps) = if nat_le step.line line then suc (steps_to line steps) else 0
