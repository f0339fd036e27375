-- Pids that are named one after the other, each at its first place alone (this project's profile).
use Rattle.std.specs.Prelude.{ℕ, ◌==◌, if◌then◌else◌, List, [], ◌∷◌, ◌++◌}
use Rattle.std.specs.List.{flat_map, list_any}
use Rattle.cfs_model.specs.declared.act.Entry.{Entry}
use Rattle.replay_model.specs.Summary.{born_by}

-- one pid more, where it isn't among them
abbrev pub with_pid : ℕ → List ℕ → List ℕ
with_pid pid pids = if list_any (λ other. other == pid) pids then pids else pids ++ pid ∷ []

-- some more, in turn
abbrev pub with_pids : List ℕ → List ℕ → List ℕ
with_pids [] pids = pids
with_pids (pid ∷ more) pids = with_pids more (with_pid pid pids)

-- the tasks that events bear
abbrev pub births_in : List Entry → List ℕ
births_in events = flat_map (λ (event : Entry). born_by event.act) events
