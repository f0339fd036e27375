-- How the lines of a companion are spelled (this project's companion format, versions 1 to 3).
use Rattle.std.specs.Prelude.{◌≡◌, ℕ, ◌≤◌, ℤ, pos, neg_ℤ, List, [], ◌∷◌, ◌++◌, codes, ◌⊎◌}
use Rattle.std.specs.List.{join_with_byte}
use Rattle.cfs_model.specs.declared.task.Place.{Place}
use Rattle.cfs_model.specs.declared.task.Place.TheVariants.{Run, Wait, Rest}
use Rattle.cfs_model.specs.declared.claim.ClaimSort.{ClaimSort}
use Rattle.cfs_model.specs.declared.claim.ClaimSort.TheVariants.{At, Pass}
use Rattle.text_parts.specs.Numerals.{IsNumeral, value_of}
use Rattle.text_parts.specs.Time.{IsTime}
use Rattle.companion_file.specs.Shape.{Shape, version_line, cpus_line, start_line, floor_line, task_line, claim_line}
use Rattle.companion_file.specs.Shape.{nice_line, idle_line, charge_line}
use Rattle.cfs_model.specs.declared.policy.Policy.TheVariants.{Normal}

-- the line is the first one of every companion of this version
abbrev pub IsFirstLine : List ℕ → ℕ → Type 0
IsFirstLine line version =
    ((line ≡ codes "cfs-companion 1") × (version ≡ 1))
    ⊎ ((line ≡ codes "cfs-companion 2") × (version ≡ 2))
    ⊎ ((line ≡ codes "cfs-companion 3") × (version ≡ 3))

-- a line about a control group
abbrev pub IsControlGroup : List ℕ → Type 0
IsControlGroup line = (line ≡ codes "cgroup") ⊎ ((rest : List ℕ) × (line ≡ codes "cgroup " ++ rest))

-- words with exactly one space between each two
abbrev pub spaced : List (List ℕ) → List ℕ
spaced words = join_with_byte 32 words

-- a number is one or more digits, leading zeros allowed
pub record IsNumber (word : List ℕ) (n : ℕ) : Type 0 where
  pub digits : IsNumeral word
  pub value : n ≡ value_of word

-- an integer is a number, or `-` and a number
abbrev pub IsInteger : List ℕ → ℤ → Type 0
IsInteger word z =
    ((n : ℕ) × IsNumber word n × (z ≡ pos n))
    ⊎ ((digits : List ℕ) × (n : ℕ) × IsNumber digits n × (word ≡ codes "-" ++ digits) × (z ≡ neg_ℤ (pos n)))

-- the words for the places
abbrev pub place_word : Place → List ℕ
place_word Run = codes "run"
place_word Wait = codes "wait"
place_word Rest = codes "rest"

-- the first words of claims
abbrev pub sort_word : ClaimSort → List ℕ
sort_word At = codes "at"
sort_word Pass = codes "pass"

-- in a text of this version the line has the shape, and says this
abbrev pub IsSpelled : ℕ → List ℕ → Shape → Type 0
IsSpelled version line (version_line n) =
    (a : List ℕ) × IsNumber a n × (line ≡ spaced (codes "cfs-companion" ∷ a ∷ []))
IsSpelled version line (cpus_line n) =
    (a : List ℕ) × IsNumber a n × (line ≡ spaced (codes "cpus" ∷ a ∷ []))
IsSpelled version line (start_line seconds nanoseconds) =
    (a : List ℕ) × IsTime a seconds nanoseconds × (line ≡ spaced (codes "start" ∷ a ∷ []))
IsSpelled version line (floor_line cpu floor) =
    (a b : List ℕ) × IsNumber a cpu × IsInteger b floor × (line ≡ spaced (codes "floor" ∷ a ∷ b ∷ []))
IsSpelled version line (task_line task) =
    (task.policy ≡ Normal) × (a b c d : List ℕ) × IsNumber a task.pid × IsInteger b task.nice × IsNumber c task.cpu
    × IsInteger d task.v
    × (line ≡ spaced (codes "task" ∷ a ∷ b ∷ c ∷ place_word task.place ∷ d ∷ []))
IsSpelled version line (claim_line claim) =
    (a b c : List ℕ) × IsNumber a claim.line × IsNumber b claim.pid × IsInteger c claim.v
    × (line ≡ spaced (sort_word claim.sort ∷ a ∷ b ∷ c ∷ []))
IsSpelled version line (nice_line change) =
    (2 ≤ version) × (a b c : List ℕ) × IsNumber a change.line × IsNumber b change.pid × IsInteger c change.nice
    × (line ≡ spaced (codes "nice" ∷ a ∷ b ∷ c ∷ []))
IsSpelled version line (idle_line idle) =
    (2 ≤ version) × (a b : List ℕ) × IsNumber a idle.line × IsNumber b idle.pid
    × (line ≡ spaced (codes "idle" ∷ a ∷ b ∷ []))
IsSpelled version line (charge_line charge) =
    (3 ≤ version) × (a b c : List ℕ) × IsNumber a charge.line × IsNumber b charge.pid × IsInteger c charge.v
    × (line ≡ spaced (codes "charge" ∷ a ∷ b ∷ c ∷ []))
