-- Who is alive, by births and ends in the order of lines (this project's profile).
use Rattle.std.specs.Prelude.{◌≡◌, ℕ, suc, Bool, true, false, is_some, ⊤, List, [], ◌∷◌}
use Rattle.cfs_model.specs.Machine.{put}
use Rattle.cfs_model.specs.Start.{task_of}
use Rattle.cfs_model.specs.Claimed.{Claimed}
use Rattle.cfs_model.specs.declared.act.Act.{Act}
use Rattle.cfs_model.specs.declared.act.Act.TheVariants.{Switch, Born}
use Rattle.cfs_model.specs.declared.act.Way.TheVariants.{Ends}
use Rattle.cfs_model.specs.declared.task.Task.{Task}

-- who is alive at the start
abbrev pub named : List Task → ℕ → Bool
named tasks pid = is_some (task_of tasks pid)

-- who is alive after an event: a birth begins a pid, and a switch away from a task that ends ends it
abbrev pub roll_after : (ℕ → Bool) → Act → ℕ → Bool
roll_after alive (Born cpu pid nice) = put alive pid true
roll_after alive (Switch cpu (suc n) prev_nice Ends next next_nice) = put alive (suc n) false
roll_after alive _ = alive

-- who is alive after some events
abbrev pub roll_of : (ℕ → Bool) → List Claimed → ℕ → Bool
roll_of alive [] = alive
roll_of alive (event ∷ events) = roll_of (roll_after alive event.entry.act) events

-- the pid that an event gives birth to isn't alive
abbrev pub BirthIsNew : (ℕ → Bool) → Act → Type 0
BirthIsNew alive (Born cpu pid nice) = alive pid ≡ false
BirthIsNew alive _ = ⊤

-- every birth is of a pid that isn't alive by the roll of births and ends
abbrev pub BirthsAreNew : (ℕ → Bool) → List Claimed → Type 0
BirthsAreNew alive [] = ⊤
BirthsAreNew alive (event ∷ events) =
    BirthIsNew alive event.entry.act × BirthsAreNew (roll_after alive event.entry.act) events
