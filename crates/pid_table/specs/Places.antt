-- Where each pid's row is looked for: three levels of words, by the bits of the pid (this project's profile).
use Rattle.std.specs.Prelude.{◌≡◌, ◌≢◌, ◌≤◌, ◌<◌, ◌+◌, ◌*◌, ◌/◌, ◌%◌, ◌==◌, ◌⊎◌, ℕ, List, Bool, ◌&&◌, not}
use Rattle.std.specs.Prelude.{All, length, nat_eq, nat_le, nat_lt, min, slice_index_or, count_by, vec_capacity}
use Rattle.std.specs.Prelude.{if◌then◌else◌}
use Rattle.std.specs.List.{IsDistinct}
use Rattle.pid_table.specs.Marks.{AreMarked}
use Rattle.pid_table.specs.declared.pid_marks.PidMarks.{PidMarks}
use Rattle.pid_table.specs.declared.pid_places.PidPlaces.{PidPlaces}
use Rattle.pid_table.specs.declared.pid_places.TheConstants.{TOPS, BRANCH, LEAF}

-- how many words of a list point behind the first node
abbrev pub pointers : List ℕ → ℕ
pointers words = count_by (λ word. not (word == 0)) words

-- the words of one level point at nodes of so many words each on the next one
pub record AreNodes (size : ℕ) (parents nodes : List ℕ) : Type 0 where
  -- the first node, at which a word 0 points, has nothing
  pub empty : (i : ℕ) → i < size → slice_index_or nodes i 0 ≡ 0
  -- all others point behind it
  pub within : (i : ℕ) → slice_index_or parents i 0 ≢ 0
      → (size ≤ slice_index_or parents i 0) × (slice_index_or parents i 0 + size ≤ length nodes)
  -- there are no more nodes than are pointed at
  pub few : length nodes ≤ size + pointers parents * size

-- a list with words 0 behind it, so that it has at least so many
pub record IsPadded (least : ℕ) (old new : List ℕ) : Type 0 where
  pub kept : (i : ℕ) → slice_index_or new i 0 ≡ slice_index_or old i 0
  pub same_pointers : pointers new ≡ pointers old
  pub longer : length old ≤ length new
  pub most : (length new ≡ length old) ⊎ (length new ≡ least)

-- a list in which the word at an index points behind the first node, and all else is as before
pub record PointsAt (old new : List ℕ) (index node : ℕ) : Type 0 where
  pub points : slice_index_or new index 0 ≡ node
  pub others : (i : ℕ) → i ≢ index → slice_index_or new i 0 ≡ slice_index_or old i 0
  pub kept : slice_index_or old index 0 ≢ 0 → slice_index_or old index 0 ≡ node
  pub same_length : length new ≡ length old

-- all levels are so
pub record AreLevels (places : PidPlaces) : Type 0 where
  pub few_tops : length places.tops.items ≤ TOPS
  pub branches : AreNodes BRANCH places.tops.items places.branches.items
  pub leaves : AreNodes LEAF places.branches.items places.leaves.items

-- the word of a pid on each level, where the node begins at an offset
abbrev pub top_index : ℕ → ℕ
top_index pid = min (pid / 1024) 4096

abbrev pub branch_index : ℕ → ℕ → ℕ
branch_index branch pid = branch + pid / 32 % 32

abbrev pub leaf_index : ℕ → ℕ → ℕ
leaf_index leaf pid = leaf + pid % 32

-- where a pid's row is looked for, counted from 1; 0 if it has none
abbrev pub place_in : List ℕ → List ℕ → List ℕ → ℕ → ℕ
place_in tops branches leaves pid =
    slice_index_or leaves
    (leaf_index (slice_index_or branches (branch_index (slice_index_or tops (top_index pid) 0) pid) 0) pid) 0

abbrev pub place_of : PidPlaces → ℕ → ℕ
place_of places pid = place_in places.tops.items places.branches.items places.leaves.items pid

-- there is room for one node more on each level
abbrev pub has_room : PidPlaces → Bool
has_room places =
    nat_le TOPS (length places.tops.items)
    && (nat_le BRANCH (length places.branches.items) && (nat_le LEAF (length places.leaves.items)
    && (nat_le (length places.branches.items + BRANCH) (vec_capacity places.branches)
    && nat_le (length places.leaves.items + LEAF) (vec_capacity places.leaves))))

-- each pid of a table has one row and a mark, and a place at which it is looked for
pub record IsTable {V : Type 0} (pids : List ℕ) (rows : List V) (marks : PidMarks) (places : PidPlaces) : Type 0 where
  pub one_each : length rows ≡ length pids
  pub apart : IsDistinct nat_eq pids
  pub levels : AreLevels places
  pub marked : AreMarked marks pids
  pub placed : All (λ pid. 0 < place_of places pid) pids

-- how many more surely fit without memory: one, where the lists of pids and of rows have room too, or none
abbrev pub room_beside : PidPlaces → ℕ → ℕ → ℕ
room_beside places pids rows = if has_room places && (nat_lt 0 pids && nat_lt 0 rows) then 1 else 0
