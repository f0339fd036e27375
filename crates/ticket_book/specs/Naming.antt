-- Tasks that are named one after the other (this project's profile).
use Rattle.std.specs.Prelude.{ℕ, List}
use Rattle.std.specs.List.{flat_map, fold}
use Rattle.cfs_model.specs.declared.act.Entry.{Entry}
use Rattle.replay_model.specs.Noted.{with_tally}
use Rattle.replay_model.specs.Summary.{born_by}
use Rattle.replay_model.specs.declared.page.Tally.{Tally}

-- the tallies with one for each of these pids: a pid that has one keeps it
abbrev pub with_named : List ℕ → List Tally → List Tally
with_named pids tallies = fold (λ named pid. with_tally pid named) tallies pids

-- the tasks that events give birth to
abbrev pub births_in : List Entry → List ℕ
births_in events = flat_map (λ event. born_by event.act) events
