-- The events of two parts of a trace with what the companion says on their lines (this project's profile).
use Rattle.std.specs.Prelude.{◌≡◌, ℕ, ◌<◌, ◌≤◌, List, [], ◌∷◌, ◌++◌}
use Rattle.std.specs.List.{AllByRecursion}
use Rattle.cfs_model.specs.Claimed.{Claimed, policies_after, policy_in, claimed}
use Rattle.cfs_model.specs.declared.act.Entry.{Entry}
use Rattle.cfs_model.specs.declared.charge_line.ChargeLine.{ChargeLine}
use Rattle.cfs_model.specs.declared.claim.Claim.{Claim}
use Rattle.cfs_model.specs.declared.idle_line.IdleLine.{IdleLine}
use Rattle.cfs_model.specs.declared.nice_line.NiceLine.{NiceLine}
use Rattle.cfs_model.specs.declared.policy.Policy.{Policy}

-- the policies as they stand after some events
abbrev pub policies_through : List IdleLine → (ℕ → Policy) → List Entry → ℕ → Policy
policies_through idles policies [] = policies
policies_through idles policies (entry ∷ entries) =
    policies_through idles (policies_after idles policies entry.line entry.act) entries

-- what a window has of both texts: events, claims, changes of nice values and told charges
pub record PartView : Type 0 where
  pub entries : List Entry
  pub claims : List Claim
  pub nices : List NiceLine
  pub charges : List ChargeLine

-- the events of a part with what the companion says on their lines, by the policies before it
abbrev pub claimed_part : List IdleLine → (ℕ → Policy) → PartView → List Claimed
claimed_part idles policies part =
    claimed part.claims part.nices part.charges (policy_in idles policies part.entries) part.entries

-- two parts, the second behind the first
abbrev pub both_parts : PartView → PartView → PartView
both_parts first second = record {
  entries = first.entries ++ second.entries;
  claims = first.claims ++ second.claims;
  nices = first.nices ++ second.nices;
  charges = first.charges ++ second.charges;
}

-- all lines of a part are such
pub record HasLines (part : PartView) (Is : ℕ → Type 0) : Type 0 where
  pub entries : AllByRecursion (λ entry. Is entry.line) part.entries
  pub claims : AllByRecursion (λ claim. Is claim.line) part.claims
  pub nices : AllByRecursion (λ change. Is change.line) part.nices
  pub charges : AllByRecursion (λ charge. Is charge.line) part.charges

-- where a line is the edge of two parts, the events of both are those of the first with its own claims, and those of
-- the second with its own, by the policies as they stand after the first
abbrev pub ClaimedInParts : Type 0
ClaimedInParts = (idles : List IdleLine) (policies : ℕ → Policy) (first second : PartView) (edge : ℕ)
    → HasLines first (λ line. line ≤ edge) → HasLines second (λ line. edge < line)
    → claimed_part idles policies (both_parts first second)
    ≡ claimed_part idles policies first
    ++ claimed_part idles (policies_through idles policies first.entries) second
