-- How long a processor may idle beside a waiting task (this project's profile).
use Rattle.std.specs.Prelude.{ℕ, ◌+◌, ◌<◌, ◌≤◌, List, length, slice_get, slice_index, IsSomeAnd}
use Rattle.cfs_model.specs.Machine.{Machine, Stands, NobodyStands}
use Rattle.cfs_model.specs.declared.task.Place.TheVariants.{Run, Wait}

-- nobody runs at the processor, and somebody waits there
pub record Idles (m : Machine) (cpu : ℕ) : Type 0 where
  pub nobody_runs : NobodyStands m Run cpu
  pub pid : ℕ
  pub waits : Stands m Wait cpu pid

-- the processor idles in each of these states from number i to the one before number j
abbrev pub IdlesFrom : List Machine → ℕ → ℕ → ℕ → Type 0
IdlesFrom states cpu i j = (n : ℕ) → i ≤ n → n < j → IsSomeAnd (slice_get states n) (λ m. Idles m cpu)

-- times and states count from the start: number 0 is the start, number j the event j and the state after it. Where a
-- processor idles from after event i to before event j, these are at most the slack apart
abbrev pub KeepsSlack : ℕ → List ℕ → List Machine → Type 0
KeepsSlack slack times states =
    (cpu i j : ℕ) → i < j → j < length states → IdlesFrom states cpu i j
    → slice_index times j ≤ slice_index times i + slack
