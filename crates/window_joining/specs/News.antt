-- What a companion says of the lines above one and up to another (this project's profile).
use Rattle.std.specs.Prelude.{◌≡◌, ℕ, ◌<◌, ◌==◌, ◌&&◌, ◌⊎◌, Any, Bool, false, List}
use Rattle.std.specs.List.{AllPairs}
use Rattle.cfs_model.specs.declared.act.Entry.{Entry}
use Rattle.cfs_model.specs.declared.charge_line.ChargeLine.{ChargeLine}
use Rattle.cfs_model.specs.declared.claim.Claim.{Claim}
use Rattle.cfs_model.specs.declared.idle_line.IdleLine.{IdleLine}
use Rattle.cfs_model.specs.declared.nice_line.NiceLine.{NiceLine}
use Rattle.companion_file.specs.Order.{IdleRises}
use Rattle.sched_record.specs.Join.{is_birth_of}
use Rattle.window_joining.specs.Between.{IsCut}

-- the lists in which a companion says something of lines
pub record ListsView : Type 0 where
  pub claims : List Claim
  pub nices : List NiceLine
  pub charges : List ChargeLine
  pub idles : List IdleLine

-- each list by rising line, the idle lines on one line by rising pid
pub record AreRising (lists : ListsView) : Type 0 where
  pub claims : AllPairs (λ a b. a.line < b.line) lists.claims
  pub nices : AllPairs (λ a b. a.line < b.line) lists.nices
  pub charges : AllPairs (λ a b. a.line < b.line) lists.charges
  pub idles : AllPairs IdleRises lists.idles

-- of each list what stands on lines above one and up to another
pub record IsNews (low high : ℕ) (lists news : ListsView) : Type 0 where
  pub claims : IsCut Claim (λ claim. claim.line) low high lists.claims news.claims
  pub nices : IsCut NiceLine (λ change. change.line) low high lists.nices news.nices
  pub charges : IsCut ChargeLine (λ charge. charge.line) low high lists.charges news.charges
  pub idles : IsCut IdleLine (λ idle. idle.line) low high lists.idles news.idles

-- the event is the birth that the idle line speaks of
abbrev pub is_named_by : Entry → IdleLine → Bool
is_named_by event idle = (event.line == idle.line) && is_birth_of idle.pid event.act

-- a claim among these stands on the line, which is above the event's; and so of the others
abbrev pub IsClaimAbove : List Claim → Entry → ℕ → Type 0
IsClaimAbove claims event line = (line < event.line) × Any (λ claim. claim.line ≡ line) claims

abbrev pub IsNiceAbove : List NiceLine → Entry → ℕ → Type 0
IsNiceAbove nices event line = (line < event.line) × Any (λ change. change.line ≡ line) nices

abbrev pub IsChargeAbove : List ChargeLine → Entry → ℕ → Type 0
IsChargeAbove charges event line = (line < event.line) × Any (λ charge. charge.line ≡ line) charges

-- an idle line among these stands on the line, and the event isn't the birth that it speaks of
abbrev pub IsIdleBeside : List IdleLine → Entry → ℕ → Type 0
IsIdleBeside idles event line = Any (λ idle. (idle.line ≡ line) × (is_named_by event idle ≡ false)) idles

-- one of these does
abbrev pub IsStrayBeside : ListsView → Entry → ℕ → Type 0
IsStrayBeside news event line =
    IsClaimAbove news.claims event line ⊎ IsNiceAbove news.nices event line
    ⊎ IsIdleBeside news.idles event line ⊎ IsChargeAbove news.charges event line

-- something among these stands on the line, which is below this one
abbrev pub IsBehind : ℕ → ListsView → ℕ → Type 0
IsBehind edge lists line =
    ((edge < line) × Any (λ claim. claim.line ≡ line) lists.claims)
    ⊎ ((edge < line) × Any (λ change. change.line ≡ line) lists.nices)
    ⊎ ((edge < line) × Any (λ idle. idle.line ≡ line) lists.idles)
    ⊎ ((edge < line) × Any (λ charge. charge.line ≡ line) lists.charges)
