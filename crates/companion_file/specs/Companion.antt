-- What a companion's text means (this project's companion format).
use Rattle.std.specs.Prelude.{◌≡◌, ℕ, ◌+◌, ℤ, true, false, List, [], ◌∷◌, ◌++◌, length, All, Some, Result, Ok, Err}
use Rattle.std.specs.Prelude.{◌⊎◌}
use Rattle.cfs_model.specs.declared.task.Task.{Task}
use Rattle.cfs_model.specs.declared.charge_line.ChargeLine.{ChargeLine}
use Rattle.cfs_model.specs.declared.claim.Claim.{Claim}
use Rattle.cfs_model.specs.declared.nice_line.NiceLine.{NiceLine}
use Rattle.cfs_model.specs.declared.idle_line.IdleLine.{IdleLine}
use Rattle.companion_file.specs.declared.fault.CompanionCause.{CompanionCause}
use Rattle.companion_file.specs.declared.fault.CompanionCause.TheVariants.{Short}
use Rattle.text_parts.specs.Lines.{lines_of, IsComment}
use Rattle.companion_file.specs.Shape.{Shape}
use Rattle.companion_file.specs.Spelling.{IsFirstLine}
use Rattle.companion_file.specs.Earlier.{summed, has_all_floors}
use Rattle.companion_file.specs.Tests.{IsJudged}

-- the start state, the claims, the changes of nice values, who is of the idle policy, and the charges that are told
pub record CompanionView : Type 0 where
  -- the number of processors
  pub cpus : ℕ
  -- the start, in nanoseconds
  pub start : ℕ
  -- the floor of each processor, from processor 0 on
  pub floors : List ℤ
  pub tasks : List Task
  pub claims : List Claim
  pub nices : List NiceLine
  pub idles : List IdleLine
  pub charges : List ChargeLine

-- after lines that said `earlier` each of these lines is a comment or good, and with them `said` is said
abbrev pub AreGood : List Shape → List (List ℕ) → List Shape → Type 0
AreGood earlier [] said = said ≡ earlier
AreGood earlier (line ∷ lines) said =
    (IsComment line × AreGood earlier lines said)
    ⊎ ((¬ IsComment line) × ((x : Shape) × IsJudged (summed earlier) line (Ok x)
    × AreGood (earlier ++ x ∷ []) lines said))

-- the first bad line, and why it is bad: the lines before it are good
pub record IsFirstBadCompanionLine (lines : List (List ℕ)) (number : ℕ) (cause : CompanionCause) : Type 0 where
  pub before : List (List ℕ)
  pub line : List ℕ
  pub after : List (List ℕ)
  pub said : List Shape
  pub parts : lines ≡ before ++ line ∷ after
  pub place : number ≡ length before + 1
  pub good : AreGood [] before said
  pub content : ¬ IsComment line
  pub bad : IsJudged (summed said) line (Err cause)

-- no line is bad, but a floor is missing at the end
pub record IsShort (lines : List (List ℕ)) (number : ℕ) (cause : CompanionCause) : Type 0 where
  pub said : List Shape
  pub good : AreGood [] lines said
  pub missing : has_all_floors (summed said) ≡ false
  pub place : number ≡ length lines + 1
  pub name : cause ≡ Short

-- no line is bad and no floor is missing, and together they say r
pub record IsRead (lines : List (List ℕ)) (r : CompanionView) : Type 0 where
  pub said : List Shape
  pub good : AreGood [] lines said
  pub whole : has_all_floors (summed said) ≡ true
  pub cpus_is : (summed said).cpus ≡ Some r.cpus
  pub start_is : (summed said).start ≡ Some r.start
  pub floors_is : r.floors ≡ (summed said).floors
  pub tasks_is : r.tasks ≡ (summed said).tasks
  pub claims_is : r.claims ≡ (summed said).claims
  pub nices_is : r.nices ≡ (summed said).nices
  pub idles_is : r.idles ≡ (summed said).idles
  pub charges_is : r.charges ≡ (summed said).charges

-- the first of the lines that is no comment names this version
pub record AreOfVersion (lines : List (List ℕ)) (version : ℕ) : Type 0 where
  pub comments : List (List ℕ)
  pub line : List ℕ
  pub rest : List (List ℕ)
  pub parts : lines ≡ comments ++ line ∷ rest
  pub are_comments : All IsComment comments
  pub is_first : IsFirstLine line version

-- the lines are refused at a line for a cause
abbrev pub IsRefusedCompanion : List (List ℕ) → ℕ → CompanionCause → Type 0
IsRefusedCompanion lines number cause = IsFirstBadCompanionLine lines number cause ⊎ IsShort lines number cause

-- a text means a companion, or it is refused at a line for a cause
abbrev pub CompanionAnswer : List ℕ → Result CompanionView (ℕ × CompanionCause) → Type 0
CompanionAnswer text (Ok r) = IsRead (lines_of text) r
CompanionAnswer text (Err fault) = IsRefusedCompanion (lines_of text) fault.0 fault.1
