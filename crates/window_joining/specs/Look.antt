-- What one look at the next claim tells of what is new (this project's profile).
use Rattle.std.specs.Prelude.{◌≡◌, ℕ, ◌<◌, ◌≤◌, Bool, true, false, List, [], length, slice_index_or, Option, Some, None}
use Rattle.std.specs.Option.{option_to_list}
use Rattle.cfs_model.specs.declared.claim.Claim.{Claim}
use Rattle.window_joining.specs.Between.{IsCut}
use Rattle.window_joining.specs.News.{ListsView}
use Rattle.window_joining.specs.Policies.{AreUsual}
use Rattle.window_joining.specs.declared.joining.Joining.{Joining}
use Rattle.window_joining.specs.declared.look.Look.{Look}
use Rattle.window_joining.specs.declared.look.Look.TheVariants.{Clear, Unclear}

-- this claim, if it is said
abbrev pub told : Bool → Claim → Option Claim
told true claim = Some claim
told false claim = None

-- no more than a claim is new
abbrev pub news_of : Option Claim → ListsView
news_of claim = record { claims = option_to_list claim; nices = []; charges = []; idles = [] }

-- what a look at the claim at an index tells of the claims on lines above one and up to another: that there is none, or
-- that this one is the only one, and on the line
abbrev pub IsSeen : List Claim → ℕ → ℕ → ℕ → Look → Type 0
IsSeen claims next low line (Clear claim is_said behind) =
    (is_said ≡ true → (next < length claims) × (claim.now.line ≡ line))
    × IsCut Claim (λ claim. claim.line) low line claims (option_to_list (told is_said claim.now))
IsSeen claims next low line Unclear = Unit {0}

-- the claims before an index stand on lines up to this one
abbrev pub ArePassed : List Claim → ℕ → ℕ → Type 0
ArePassed claims next line =
    (next ≤ length claims) × ((k : ℕ) (d : Claim) → k < next → (slice_index_or claims k d).line ≤ line)

-- so do those that are passed after a look
abbrev pub WillPass : List Claim → ℕ → Look → Type 0
WillPass claims line (Clear claim is_said behind) = ArePassed claims behind line
WillPass claims line Unclear = Unit {0}

-- one look at the claim at an index may tell what is new of the next event: nothing but claims is said, nobody is of
-- the idle policy, and the claims before it are passed
pub record MayLook (lists : ListsView) (joining : Joining) (next : ℕ) : Type 0 where
  pub usual : AreUsual joining.policies
  pub nices : lists.nices ≡ []
  pub charges : lists.charges ≡ []
  pub idles : lists.idles ≡ []
  pub passed : ArePassed lists.claims next joining.line
