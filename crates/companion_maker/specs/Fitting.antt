-- When the text of a companion fits a trace (this project's profile).
use Rattle.std.specs.Prelude.{ℕ, List, Ok}
use Rattle.cfs_model.specs.declared.act.Entry.{Entry}
use Rattle.cfs_model.specs.Limits.{most_processors}
use Rattle.companion_file.specs.Companion.{CompanionView, CompanionAnswer}
use Rattle.sched_record.specs.Join.{GoTogether, IsFirstOutside}
use Rattle.companion_maker.specs.declared.not_made.NotMade.{NotMade}
use Rattle.companion_maker.specs.declared.not_made.NotMade.TheVariants as reasons

-- the text is read as a companion, which joins with these events
abbrev pub ReadsAndJoins : List Entry → List ℕ → Type 0
ReadsAndJoins events text = (companion : CompanionView) × CompanionAnswer text (Ok companion)
    × GoTogether events companion

-- no companion is made for these events, since the first that touches a processor which no companion has stands on the
-- line; of want of memory nothing is said
abbrev pub IsNotMadeFor : List Entry → NotMade → Type 0
IsNotMadeFor events (reasons.CpuOutside line) = IsFirstOutside most_processors events line
IsNotMadeFor events reasons.Memory = Unit {0}
