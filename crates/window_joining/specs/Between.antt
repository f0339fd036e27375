-- What stands on lines above one and up to another, in a list by rising line (this project's profile).
use Rattle.std.specs.Prelude.{◌≡◌, ℕ, ◌<◌, ◌≤◌, List, ◌++◌, All, length, slice_index_or}

-- so many of the items stand on lines up to this one: those before the index
pub record IsThrough (X : Type 0) (line_of : X → ℕ) (items : List X) (line index : ℕ) : Type 0 where
  pub within : index ≤ length items
  pub passed : (k : ℕ) (d : X) → k < index → line_of (slice_index_or items k d) ≤ line
  pub beyond : (k : ℕ) (d : X) → index ≤ k → k < length items → line < line_of (slice_index_or items k d)

-- these are the items on lines above one and up to another
pub record IsCut (X : Type 0) (line_of : X → ℕ) (low high : ℕ) (items cut : List X) : Type 0 where
  pub before : List X
  pub after : List X
  pub parts : items ≡ before ++ (cut ++ after)
  pub passed : All (λ x. line_of x ≤ low) before
  pub above : All (λ x. low < line_of x) cut
  pub within : All (λ x. line_of x ≤ high) cut
  pub beyond : All (λ x. high < line_of x) after
