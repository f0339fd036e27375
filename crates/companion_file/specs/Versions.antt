-- Companions that mean the same in two versions (this project's companion format, versions 1 to 3).
use Rattle.std.specs.Prelude.{◌≡◌, ℕ, List, ◌∷◌, ◌++◌, All, codes}
use Rattle.cfs_model.specs.declared.charge_line.ChargeLine.{ChargeLine}
use Rattle.cfs_model.specs.declared.idle_line.IdleLine.{IdleLine}
use Rattle.cfs_model.specs.declared.nice_line.NiceLine.{NiceLine}
use Rattle.text_parts.specs.Lines.{lines_of, IsComment}
use Rattle.companion_file.specs.Shape.{nice_line, idle_line, charge_line}
use Rattle.companion_file.specs.Spelling.{IsSpelled}

-- the line tells, by version 2, neither a change of a nice value nor who is of the idle policy
pub record IsOfBothVersions (line : List ℕ) : Type 0 where
  pub no_change : (change : NiceLine) → ¬ IsSpelled 2 line (nice_line change)
  pub no_policy : (idle : IdleLine) → ¬ IsSpelled 2 line (idle_line idle)

-- two texts that differ in the version that their first lines name, behind the same comments and before the same lines,
-- which are of both versions
pub record DifferInVersion (one two : List ℕ) : Type 0 where
  pub comments : List (List ℕ)
  pub are_comments : All IsComment comments
  pub rest : List (List ℕ)
  pub of_both : All IsOfBothVersions rest
  pub one_is : lines_of one ≡ comments ++ codes "cfs-companion 1" ∷ rest
  pub two_is : lines_of two ≡ comments ++ codes "cfs-companion 2" ∷ rest

-- the line tells, by version 3, no charge
abbrev pub TellsNoCharge : List ℕ → Type 0
TellsNoCharge line = (charge : ChargeLine) → ¬ IsSpelled 3 line (charge_line charge)

-- two texts that differ in the version that their first lines name, the second or the third, behind the same comments
-- and before the same lines, which tell no charge
pub record DifferInThird (two three : List ℕ) : Type 0 where
  pub comments : List (List ℕ)
  pub are_comments : All IsComment comments
  pub rest : List (List ℕ)
  pub no_charge : All TellsNoCharge rest
  pub two_is : lines_of two ≡ comments ++ codes "cfs-companion 2" ∷ rest
  pub three_is : lines_of three ≡ comments ++ codes "cfs-companion 3" ∷ rest
