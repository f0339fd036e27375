-- Where something is first found (this project's profile).
use Rattle.std.specs.Prelude.{◌≡◌, ℕ, ◌+◌, ◌<◌, ◌≤◌, nat_lt, Bool, true, false, Option, Some, None, List, ◌∷◌, ◌++◌}
use Rattle.std.specs.List.{AllByRecursion}
use Rattle.cfs_model.specs.declared.act.Entry.{Entry}

-- of what is at the indices below a number it is the one of the least key, and of equal ones that of the lowest index
pub record IsFound {A : Type 0} (key : A → ℕ) (at : ℕ → Option A) (count : ℕ) (first : A) : Type 0 where
  pub index : ℕ
  pub within : index < count
  pub there : at index ≡ Some first
  pub least : (other : ℕ) (a : A) → other < count → at other ≡ Some a → key first ≤ key a
  pub lowest : (other : ℕ) (a : A) → other < index → at other ≡ Some a → key first < key a

-- or nothing is there
abbrev pub IsFirstOf : {A : Type 0} → (A → ℕ) → (ℕ → Option A) → ℕ → Option A → Type 0
IsFirstOf key at count None = (index : ℕ) → index < count → at index ≡ None
IsFirstOf key at count (Some first) = IsFound key at count first

-- what comes next is of a lesser key than the first so far, or there was none
abbrev pub goes_first : {A : Type 0} → (A → ℕ) → Option A → Option A → Bool
goes_first key next None = true
goes_first key None (Some first) = false
goes_first key (Some next) (Some first) = nat_lt (key next) (key first)

-- the first of some events by whose time a processor has idled since a time for longer than a bound
pub record IsLate (entries : List Entry) (since bound : ℕ) (entry : Entry) : Type 0 where
  pub front : List Entry
  pub rest : List Entry
  pub whole : entries ≡ front ++ entry ∷ rest
  pub in_time : AllByRecursion (λ x. x.time ≤ since + bound) front
  pub late : since + bound < entry.time

abbrev pub IsFirstLate : List Entry → ℕ → ℕ → Option Entry → Type 0
IsFirstLate entries since bound None = AllByRecursion (λ x. x.time ≤ since + bound) entries
IsFirstLate entries since bound (Some entry) = IsLate entries since bound entry
