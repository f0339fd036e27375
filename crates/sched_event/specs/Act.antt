-- What an event does (the ways out of a switch are this project's profile).
use Rattle.std.specs.Prelude.{ℕ, ◌==◌, ◌||◌, Bool, false, if◌then◌else◌, List, [], ◌∷◌}
use Rattle.std.specs.List.{list_any}
use Rattle.cfs_model.specs.Limits.{idle_pid}
use Rattle.cfs_model.specs.declared.act.Act.{Act}
use Rattle.cfs_model.specs.declared.act.Act.TheVariants as acts
use Rattle.cfs_model.specs.declared.act.Way.{Way}
use Rattle.cfs_model.specs.declared.act.Way.TheVariants.{Stays, Sleeps, Ends}
use Rattle.sched_event.specs.EventView.{EventView, switched, woken, born, migrated}

-- the letters of a state tell that the task was put back: `+` is among them
abbrev pub is_put_back : List ℕ → Bool
is_put_back state = list_any (λ letter. letter == 43) state

-- that it is gone: `X`, `Z` or `x` is among them
abbrev pub is_gone : List ℕ → Bool
is_gone state = list_any (λ letter. letter == 88 || (letter == 90 || letter == 120)) state

-- that it can go on running: they begin with `R`
abbrev pub is_runnable : List ℕ → Bool
is_runnable [] = false
is_runnable (letter ∷ letters) = letter == 82

-- the way out of a switch, by the letters of the state
abbrev pub way_of : List ℕ → Way
way_of state = if is_put_back state then Stays else if is_gone state then Ends else if is_runnable state then Stays else
    Sleeps

-- what an event does: the idle task stays, whatever its state
abbrev pub act_of : EventView → Act
act_of (switched s) =
    acts.Switch s.cpu s.prev s.prev_nice (if s.prev == idle_pid then Stays else way_of s.prev_state) s.next s.next_nice
act_of (woken w) = acts.Wake w.target w.pid w.nice
act_of (born w) = acts.Born w.target w.pid w.nice
act_of (migrated m) = acts.Shift m.orig m.dest m.pid m.nice
