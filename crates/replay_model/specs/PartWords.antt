-- More words for parts: the one with which a processor starts, and who runs in one (this project's profile).
use Rattle.std.specs.Prelude.{◌≡◌, ℕ, ◌==◌, option_map, ℤ, pos, List, find}
use Rattle.cfs_model.specs.declared.task.Place.TheVariants.{Run, Wait}
use Rattle.cfs_model.specs.declared.task.Task.{Task}
use Rattle.replay_model.specs.Part.{IsIn, NobodyIn, Part}

-- the part that a processor's tasks, floor and start time stand for
abbrev pub start_part : List Task → ℤ → ℕ → Part
start_part tasks floor start = record {
  tasks = λ pid. option_map
      (λ t. record { place = t.place; nice = t.nice; policy = t.policy; runtime = t.v; drift = pos 0 })
      (find (λ t. t.pid == pid) tasks);
  floor = floor;
  mark = start;
}

-- nobody runs here, and somebody waits
pub record PartIdles (part : Part) : Type 0 where
  pub nobody_runs : NobodyIn part Run
  pub pid : ℕ
  pub waits : IsIn part Wait pid

-- at most one task runs here
abbrev pub OneRunsIn : Part → Type 0
OneRunsIn part = (pid other : ℕ) → IsIn part Run pid → IsIn part Run other → pid ≡ other
