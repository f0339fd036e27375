-- The part of a processor as a step's deed finds it: charged, exactly or as told, and lifted, and then with the nice
-- value that the companion changes on the step's line (this project's profile).
use Rattle.std.specs.Prelude.{◌≡◌}
use Rattle.replay_model.specs.Part.{Part, IsLiftedPart}
use Rattle.replay_model.specs.Deeds.{reniced}
use Rattle.replay_model.specs.declared.step.Step.{Step}

-- found is the part before, charged and lifted, with the nice value changed
pub record IsFound (step : Step) (before found : Part) : Type 0 where
  pub lifted : Part
  pub is_lifted : IsLiftedPart step.time step.charge before lifted
  pub is_reniced : found ≡ reniced step.nice lifted
