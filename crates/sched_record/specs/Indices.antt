-- Where those events stand in a list that touch a processor (this project's profile).
use Rattle.std.specs.Prelude.{◌≡◌, ℕ, ◌<◌, ◌==◌, Bool, List, [], filter, map, slice_index_or}
use Rattle.std.specs.List.{enumerate_from, list_any}
use Rattle.cfs_model.specs.Limits.{most_processors}
use Rattle.cfs_model.specs.Touch.{touched}
use Rattle.cfs_model.specs.declared.act.Act.{Act}
use Rattle.cfs_model.specs.declared.act.Entry.{Entry}

-- what the event does touches the processor
abbrev pub touches_cpu : ℕ → Act → Bool
touches_cpu cpu act = list_any (λ other. other == cpu) (touched act)

-- the indices of the events that touch a processor, counted from 0, in their order
unfoldable pub indices_touching : ℕ → List Entry → List ℕ
indices_touching cpu events = map (λ at. at.0) (filter (λ at. touches_cpu cpu (at.1).act) (enumerate_from 0 events))

-- what lists, one a processor from 0 on, have of a processor: nothing where there is no list
abbrev pub indices_at : List (List ℕ) → ℕ → List ℕ
indices_at lists cpu = slice_index_or lists cpu []

-- lists that have the indices of all these events, for each processor of a machine
abbrev pub AreIndicesOf : List Entry → List (List ℕ) → Type 0
AreIndicesOf events lists = (cpu : ℕ) → cpu < most_processors → indices_at lists cpu ≡ indices_touching cpu events
