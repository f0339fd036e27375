-- Marks of pids by their low bits, and what holds between them and a table's pids (this project's profile).
use Rattle.std.specs.Prelude.{◌≡◌, ℕ, ◌/◌, ◌%◌, ◌^◌, ◌==◌, ◌-◌, Bool, true, List, length, slice_index_or}
use Rattle.std.specs.Int.{bit_at}
use Rattle.std.specs.List.{All}
use Rattle.pid_table.specs.declared.pid_marks.PidMarks.{PidMarks}
use Rattle.pid_table.specs.declared.pid_marks.TheConstants.{MARKED, BITS, WORDS}

-- whether the bit of a pid is set; all are in a word that isn't there
abbrev pub is_set : List ℕ → ℕ → Bool
is_set words pid = bit_at (slice_index_or words (pid % MARKED / BITS) (2 ^ 64 - 1)) (pid % BITS) == 1

-- whether a pid may have been marked
abbrev pub may_have : PidMarks → ℕ → Bool
may_have marks pid = is_set marks.words.items pid

-- there is room for the bit of each pid
abbrev pub HasRoom : PidMarks → Type 0
HasRoom marks = length marks.words.items ≡ WORDS

-- each pid of a list is marked
abbrev pub AreMarked : PidMarks → List ℕ → Type 0
AreMarked marks pids = All (λ pid. may_have marks pid ≡ true) pids
