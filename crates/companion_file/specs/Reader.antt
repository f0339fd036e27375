-- A companion that is read some lines at a time, and of which claims, changes and charges are let go (this project's
-- companion format: what is read in parts means what the whole means).
use Rattle.std.specs.Prelude.{◌≡◌, ℕ, ◌+◌, ◌<◌, ◌≤◌, ◌^◌, Bool, true, false, not, ◌&&◌, ◌||◌, ◌==◌, nat_lt, List, []}
use Rattle.std.specs.Prelude.{◌∷◌, ◌++◌, length, All, Option, Some, None, Result, Ok, Err, MatchOption}
use Rattle.std.specs.Prelude.{◌⊎◌, ◌↔◌}
use Rattle.std.specs.Option.{option_map_or}
use Rattle.cfs_model.specs.declared.claim.Claim.{Claim}
use Rattle.cfs_model.specs.declared.nice_line.NiceLine.{NiceLine}
use Rattle.cfs_model.specs.declared.charge_line.ChargeLine.{ChargeLine}
use Rattle.companion_file.specs.declared.bad_line.BadLine.{BadLine}
use Rattle.companion_file.specs.declared.companion.Companion.{Companion}
use Rattle.companion_file.specs.declared.companion_reader.CompanionReader.{CompanionReader}
use Rattle.companion_file.specs.declared.fault.CompanionFault.{CompanionFault}
use Rattle.companion_file.specs.declared.fault.CompanionFault.TheVariants as faults
use Rattle.companion_file.specs.Earlier.{Said, summed, has_all_floors, last_claim, last_nice, last_charge}
use Rattle.companion_file.specs.Companion.{CompanionView, IsFirstBadCompanionLine, IsRefusedCompanion, IsRead}
use Rattle.companion_file.specs.Companion.{AreOfVersion}
use Rattle.companion_file.specs.Piecewise.{SaysOn}
use Rattle.companion_file.specs.Seen.{companion_view}

-- so few lines that each has a number, and the one that is missing behind them
abbrev pub AreCountable : List (List ℕ) → Type 0
AreCountable lines = length lines + 1 < 2 ^ 64

-- what was said of the start: neither claims nor changes of nice values nor charges
abbrev pub start_of : Said → Said
start_of said = record said { claims = []; nices = []; charges = [] }

-- a claim, a change of a nice value or a charge was said
abbrev pub has_begun : Said → Bool
has_begun said = not ((length said.claims == 0) && (length said.nices == 0) && (length said.charges == 0))

-- the last claim, the last change of a nice value or the last charge stands above this line of the trace
abbrev pub reaches_past : Said → ℕ → Bool
reaches_past said line = option_map_or (λ last. nat_lt line last.line) (last_claim said) false
    || option_map_or (λ last. nat_lt line last.line) (last_nice said) false
    || option_map_or (λ last. nat_lt line last.line) (last_charge said) false

-- of all elements these are held: those before them were let go, they stand on lines up to this one, and the last
-- element isn't among them
pub record IsHeldOf {A : Type 0} (line_of : A → ℕ) (edge : ℕ) (all held : List A) : Type 0 where
  pub gone : List A
  pub parts : all ≡ gone ++ held
  pub passed : All (λ x. line_of x ≤ edge) gone
  pub last : (gone ≡ []) ⊎ ¬ (held ≡ [])

-- of what was said this is held: the start whole, and of claims, changes and charges what wasn't let go up to this line
pub record HoldsOf (edge : ℕ) (said held : Said) : Type 0 where
  pub start : start_of said ≡ start_of held
  pub claims : IsHeldOf {A = Claim} (λ claim. claim.line) edge said.claims held.claims
  pub nices : IsHeldOf {A = NiceLine} (λ change. change.line) edge said.nices held.nices
  pub charges : IsHeldOf {A = ChargeLine} (λ charge. charge.line) edge said.charges held.charges

-- of these elements only the first may stand on a line up to this one
abbrev pub OnlyFirstPassed : {A : Type 0} → (A → ℕ) → ℕ → List A → Type 0
OnlyFirstPassed line_of line [] = Unit {0}
OnlyFirstPassed line_of line (first ∷ rest) = All (λ x. line < line_of x) rest

-- these lines are so many, none of them is bad, and of what they say this is held
pub record IsSaidSoFar (lines : List (List ℕ)) (count : ℕ) (held said : Said) (edge : ℕ) : Type 0 where
  pub good : SaysOn (summed []) lines said
  pub counted : AreCountable lines → count ≡ length lines
  pub holds : HoldsOf edge said held

-- this is the first bad line, and with any lines behind them these name this version or none
pub record IsBadSoFar (lines : List (List ℕ)) (bad : BadLine) (version : Option ℕ) : Type 0 where
  pub first : AreCountable lines → IsFirstBadCompanionLine lines bad.line bad.cause
  pub names : (v : ℕ) (more : List (List ℕ)) → (version ≡ Some v) ↔ AreOfVersion (lines ++ more) v

-- a reader has read these lines, and they say this: it holds what wasn't let go up to this line of the trace, or the
-- first bad line and why it is bad
abbrev pub HasReadCompanion : CompanionReader → List (List ℕ) → Said → ℕ → Type 0
HasReadCompanion reader lines said edge =
    MatchOption reader.bad (IsSaidSoFar lines reader.count reader.draft said edge)
    (λ bad. IsBadSoFar lines bad reader.draft.version)

-- elements and more behind them, which stand above each line that was reached before
pub record AddsAbove {A : Type 0} (line_of : A → ℕ) (said : Said) (old new : List A) : Type 0 where
  pub more : List A
  pub parts : new ≡ old ++ more
  pub above : (line : ℕ) → reaches_past said line ≡ true → All (λ x. line < line_of x) more

-- more was said: what is said of lines of the trace stands behind what was, above each line that was reached, and once
-- it has begun nothing more is said of the start
pub record GoesOn (said after : Said) : Type 0 where
  pub claims : AddsAbove {A = Claim} (λ claim. claim.line) said said.claims after.claims
  pub nices : AddsAbove {A = NiceLine} (λ change. change.line) said said.nices after.nices
  pub charges : AddsAbove {A = ChargeLine} (λ charge. charge.line) said said.charges after.charges
  pub start : has_begun said ≡ true → start_of after ≡ start_of said
  pub begun : has_begun said ≡ true → has_begun after ≡ true
  pub reached : (line : ℕ) → reaches_past said line ≡ true → reaches_past after line ≡ true

-- one reader is the other once it has read these lines, too
abbrev pub ReadsOn : CompanionReader → List (List ℕ) → CompanionReader → Type 0
ReadsOn old lines new = (before : List (List ℕ)) (said : Said) (edge : ℕ) → HasReadCompanion old before said edge
    → (after : Said) × HasReadCompanion new (before ++ lines) after edge × GoesOn said after

-- one reader is the other once it has read some of these lines, the first ones
abbrev pub ReadsFront : CompanionReader → List (List ℕ) → CompanionReader → Type 0
ReadsFront old lines new =
    (front : List (List ℕ)) × (rest : List (List ℕ)) × (lines ≡ front ++ rest) × ReadsOn old front new

-- no floor is missing, and this is what was said of the start alone
pub record IsStartOf (said : Said) (r : CompanionView) : Type 0 where
  pub whole : has_all_floors said ≡ true
  pub cpus_is : said.cpus ≡ Some r.cpus
  pub start_is : said.start ≡ Some r.start
  pub floors_is : r.floors ≡ said.floors
  pub tasks_is : r.tasks ≡ said.tasks
  pub idles_is : r.idles ≡ said.idles
  pub no_claim : r.claims ≡ []
  pub no_change : r.nices ≡ []
  pub no_charge : r.charges ≡ []

-- a floor is missing, so that nothing was said of lines of the trace yet
pub record HasNoStart (said : Said) : Type 0 where
  pub missing : has_all_floors said ≡ false
  pub early : has_begun said ≡ false

-- the start is that of what was said, or none where a floor is missing
abbrev pub TellsStart : Said → Option Companion → Type 0
TellsStart said None = HasNoStart said
TellsStart said (Some start) = IsStartOf said (companion_view start)

-- a companion of this start with all that was said of lines of the trace
abbrev pub with_all_said : CompanionView → Said → CompanionView
with_all_said start said = record start { claims = said.claims; nices = said.nices; charges = said.charges }

-- what all lines of a text come to: with the start they say a companion, or they are refused
abbrev pub IsClosed : List (List ℕ) → Said → Result Unit CompanionFault → Type 0
IsClosed lines said (Ok _) = (has_all_floors said ≡ true)
    × ((start : CompanionView) → IsStartOf said start → IsRead lines (with_all_said start said))
IsClosed lines said (Err (faults.Text line cause)) = IsRefusedCompanion lines line cause
IsClosed lines said (Err faults.Memory) = ⊥
