-- What a piece of a companion's text says, read behind the head alone, and behind all that was said before it.
use Rattle.std.specs.Prelude.{◌≡◌, ℕ, true, List, [], ◌∷◌, ◌++◌, codes, is_some, Ok, ◌⊎◌}
use Rattle.bstr.specs.Find.{OccursAt}
use Rattle.cfs_model.specs.declared.claim.Claim.{Claim}
use Rattle.cfs_model.specs.declared.nice_line.NiceLine.{NiceLine}
use Rattle.cfs_model.specs.declared.charge_line.ChargeLine.{ChargeLine}
use Rattle.text_parts.specs.Lines.{IsComment}
use Rattle.companion_file.specs.Shape.{Shape}
use Rattle.companion_file.specs.Earlier.{Said, has_all_floors}
use Rattle.companion_file.specs.Tests.{IsJudged, may_claim_at, may_change_at, may_charge_at}
use Rattle.companion_file.specs.Draft.{with_line}

-- after what was said each of these lines is a comment or good, and with them this is said
abbrev pub SaysOn : Said → List (List ℕ) → Said → Type 0
SaysOn said [] after = after ≡ said
SaysOn said (line ∷ lines) after =
    (IsComment line × SaysOn said lines after)
    ⊎ ((¬ IsComment line) × ((x : Shape) × IsJudged said line (Ok x) × SaysOn (with_line said x) lines after))

-- at this place of a text a line ends, and the next one is an `at` line
abbrev pub BeginsClaim : List ℕ → ℕ → Type 0
BeginsClaim text place = OccursAt text (codes "\nat ") place

-- what was said before the first task: version, processors, start and floors
abbrev pub head_of : Said → Said
head_of said = record said { tasks = []; claims = []; nices = []; idles = []; charges = [] }

-- what was said, with the claims, the changes of nice values and the charges of a piece behind it
abbrev pub with_piece : Said → Said → Said
with_piece said piece = record said {
  claims = said.claims ++ piece.claims;
  nices = said.nices ++ piece.nices;
  charges = said.charges ++ piece.charges;
}

-- the first of these claims, if there is one, may follow what was said
abbrev pub ClaimsFollow : Said → List Claim → Type 0
ClaimsFollow said [] = Unit {0}
ClaimsFollow said (claim ∷ claims) = may_claim_at said claim.line ≡ true

-- the first of these changes, if there is one, may follow what was said
abbrev pub ChangesFollow : Said → List NiceLine → Type 0
ChangesFollow said [] = Unit {0}
ChangesFollow said (change ∷ changes) = may_change_at said change.line ≡ true

-- the first of these charges, if there is one, may follow what was said
abbrev pub ChargesFollow : Said → List ChargeLine → Type 0
ChargesFollow said [] = Unit {0}
ChargesFollow said (charge ∷ charges) = may_charge_at said charge.line ≡ true

-- the head was said, and a piece that was read behind it alone has claims, changes and charges only, which may follow
-- what was said
pub record FollowsOn (said piece : Said) : Type 0 where
  pub begun : is_some said.version ≡ true
  pub started : is_some said.start ≡ true
  pub floors : has_all_floors said ≡ true
  pub no_task : piece.tasks ≡ []
  pub no_idle : piece.idles ≡ []
  pub claims : ClaimsFollow said piece.claims
  pub changes : ChangesFollow said piece.nices
  pub charges : ChargesFollow said piece.charges

-- lines that fall into pieces, each of which says this behind the head alone
abbrev pub AreReadApart : Said → List (List ℕ) → List Said → Type 0
AreReadApart head lines [] = lines ≡ []
AreReadApart head lines (piece ∷ pieces) =
    (front : List (List ℕ)) × (rest : List (List ℕ)) × (lines ≡ front ++ rest) × SaysOn head front piece
    × AreReadApart head rest pieces
