use Rattle.std.proofs.Common.{refl, subst}
use Rattle.recording_audit.specs.Parts.{IsTold}
use Rattle.recording_audit.proofs.headline.long_enough.Goals as goal

-- it was a stretch, with as many events
pub returns-in-Stretch-clause-caused : goal.returns-in-Stretch-clause-caused
returns-in-Stretch-clause-caused c =
    λ limits before text is was. (
      (c.in-Stretch.stretch, subst (IsTold limits text) c.in-Stretch.is is, refl),
      tt,
      record { so = tt; some = λ e. absurd cc },
    )
