-- The processors that an event touches (this project's profile).
use Rattle.std.specs.Prelude.{ℕ, List, [], ◌∷◌}
use Rattle.cfs_model.specs.declared.act.Act.{Act}
use Rattle.cfs_model.specs.declared.act.Act.TheVariants.{Switch, Wake, Born, Shift}

-- a switch its own processor, a wakeup and a birth the target, a migration its two ends
abbrev pub touched : Act → List ℕ
touched (Switch cpu prev prev_nice way next next_nice) = cpu ∷ []
touched (Wake cpu pid nice) = cpu ∷ []
touched (Born cpu pid nice) = cpu ∷ []
touched (Shift orig dest pid nice) = orig ∷ dest ∷ []
