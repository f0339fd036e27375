-- How one line of a companion is read from left to right: what each part takes from the front of a text, and what it
-- leaves. Nothing here is to be believed: it is proved to give what `Spelling` spells, but for numbers far out of
-- their limits, which are read as other numbers out of their limits.
use Rattle.std.specs.Prelude.{ℕ, ◌+◌, nat_lt, if◌then◌else◌, ℤ, pos, neg_ℤ, min, List, codes, Option, None}
use Rattle.std.specs.Prelude.{Some, option_map}
use Rattle.std.specs.Option.{option_map_or}
use Rattle.cfs_model.specs.Limits.{greatest_runtime}
use Rattle.cfs_model.specs.declared.task.Place.{Place}
use Rattle.cfs_model.specs.declared.task.Place.TheVariants.{Run, Wait, Rest}
use Rattle.cfs_model.specs.declared.claim.ClaimSort.{ClaimSort}
use Rattle.cfs_model.specs.declared.claim.ClaimSort.TheVariants.{At, Pass}
use Rattle.text_parts.specs.Reading.{◌>>=◌, or_else, if_at_end, after_text, numeral_at, time_at}
use Rattle.companion_file.specs.Shape.{Shape, version_line, cpus_line, start_line, floor_line, task_line, claim_line}
use Rattle.companion_file.specs.Shape.{nice_line, idle_line, charge_line}
use Rattle.cfs_model.specs.declared.policy.Policy.TheVariants.{Normal}

-- a number above each virtual runtime; larger ones are read as this one
abbrev pub beyond_range : ℕ
beyond_range = greatest_runtime + 1

-- a number and the space behind it
unfoldable pub number_field : List ℕ → Option (ℕ × List ℕ)
number_field text = do
  number ← numeral_at text
  rest ← after_text (codes " ") number.1
  Some (number.0, rest)

-- the whole text is a number
unfoldable pub number_whole : List ℕ → Option ℕ
number_whole text = numeral_at text >>= λ number. if_at_end number.1 number.0

-- an integer behind its sign, where there is one
abbrev pub signed_at : List ℕ → Option (List ℕ) → Option (ℤ × List ℕ)
signed_at text None = numeral_at text >>= λ number. Some (pos (min number.0 beyond_range), number.1)
signed_at text (Some digits) = numeral_at digits >>= λ number. Some (neg_ℤ (pos (min number.0 beyond_range)), number.1)

-- an integer at the front, and what follows it
unfoldable pub integer_at : List ℕ → Option (ℤ × List ℕ)
integer_at text = signed_at text (after_text (codes "-") text)

-- an integer and the space behind it
unfoldable pub integer_field : List ℕ → Option (ℤ × List ℕ)
integer_field text = do
  integer ← integer_at text
  rest ← after_text (codes " ") integer.1
  Some (integer.0, rest)

-- the whole text is an integer
unfoldable pub integer_whole : List ℕ → Option ℤ
integer_whole text = integer_at text >>= λ integer. if_at_end integer.1 integer.0

-- a place, where its word was found, and what follows it
abbrev pub place_and_rest : Place → Option (List ℕ) → Option (Place × List ℕ)
place_and_rest place rest = option_map (λ text. (place, text)) rest

-- a place and the space behind it
unfoldable pub place_field : List ℕ → Option (Place × List ℕ)
place_field text =
    or_else (place_and_rest Run (after_text (codes "run ") text))
    (or_else (place_and_rest Wait (after_text (codes "wait ") text))
    (place_and_rest Rest (after_text (codes "rest ") text)))

-- what follows the word `cfs-companion`; its number is looked at in the first line alone
unfoldable pub version_shape_at : List ℕ → Option Shape
version_shape_at text = number_whole text >>= λ n. Some (version_line 0)

-- what follows the word `cpus`
unfoldable pub cpus_shape_at : List ℕ → Option Shape
cpus_shape_at text = number_whole text >>= λ n. Some (cpus_line n)

-- what follows the word `start`
unfoldable pub start_shape_at : List ℕ → Option Shape
start_shape_at text = time_at text >>= λ time. if_at_end time.2 (start_line time.0 time.1)

-- what follows the word `floor`
unfoldable pub floor_shape_at : List ℕ → Option Shape
floor_shape_at text = do
  cpu ← number_field text
  floor ← integer_whole cpu.1
  Some (floor_line cpu.0 floor)

-- what follows the word `task`
unfoldable pub task_shape_at : List ℕ → Option Shape
task_shape_at text = do
  pid ← number_field text
  nice ← integer_field pid.1
  cpu ← number_field nice.1
  place ← place_field cpu.1
  v ← integer_whole place.1
  Some (task_line (record { pid = pid.0; nice = nice.0; policy = Normal; cpu = cpu.0; place = place.0; v = v }))

-- what follows the word of a claim
unfoldable pub claim_shape_at : ClaimSort → List ℕ → Option Shape
claim_shape_at sort text = do
  line ← number_field text
  pid ← number_field line.1
  v ← integer_whole pid.1
  Some (claim_line (record { line = line.0; pid = pid.0; v = v; sort = sort }))

-- what follows the word `nice`, which version 1 doesn't have
unfoldable pub nice_shape_at : ℕ → List ℕ → Option Shape
nice_shape_at version text = if nat_lt version 2 then None else do
  line ← number_field text
  pid ← number_field line.1
  nice ← integer_whole pid.1
  Some (nice_line (record { line = line.0; pid = pid.0; nice = nice }))

-- what follows the word `idle`, which version 1 doesn't have
unfoldable pub idle_shape_at : ℕ → List ℕ → Option Shape
idle_shape_at version text = if nat_lt version 2 then None else do
  line ← number_field text
  pid ← number_whole line.1
  Some (idle_line (record { line = line.0; pid = pid }))

-- what follows the word `charge`, which versions 1 and 2 don't have
unfoldable pub charge_shape_at : ℕ → List ℕ → Option Shape
charge_shape_at version text = if nat_lt version 3 then None else do
  line ← number_field text
  pid ← number_field line.1
  v ← integer_whole pid.1
  Some (charge_line (record { line = line.0; pid = pid.0; v = v }))

-- the first word decides the shape: of those that stand before the floors
unfoldable pub front_shape_at : List ℕ → Option Shape
front_shape_at line =
    option_map_or start_shape_at (after_text (codes "start ") line)
    (option_map_or cpus_shape_at (after_text (codes "cpus ") line)
    (option_map_or version_shape_at (after_text (codes "cfs-companion ") line) None))

-- and of all, in a text of this version
unfoldable pub shape_at : ℕ → List ℕ → Option Shape
shape_at version line =
    option_map_or (claim_shape_at At) (after_text (codes "at ") line)
    (option_map_or (claim_shape_at Pass) (after_text (codes "pass ") line)
    (option_map_or (charge_shape_at version) (after_text (codes "charge ") line)
    (option_map_or task_shape_at (after_text (codes "task ") line)
    (option_map_or floor_shape_at (after_text (codes "floor ") line)
    (option_map_or (nice_shape_at version) (after_text (codes "nice ") line)
    (option_map_or (idle_shape_at version) (after_text (codes "idle ") line) (front_shape_at line)))))))
