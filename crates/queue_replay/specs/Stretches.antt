-- The tallies of a processor, task by task, and how far they can have grown (this project's profile).
use Rattle.std.specs.Prelude.{ℕ, ◌+◌, ◌*◌, ◌^◌, ◌≤◌, ◌==◌, if◌then◌else◌, Option, Some, None, nat_abs, ◌-ℤ◌}
use Rattle.std.specs.Prelude.{List, map}
use Rattle.replay_model.specs.declared.page.Tally.{Tally}
use Rattle.runqueue.specs.declared.sched_entity.SchedEntity.{SchedEntity}
use Rattle.queue_replay.specs.declared.stretch.Stretch.{Stretch}

-- a tally after the task of this pid ran for so long and was charged so much
abbrev pub ran_tally : ℕ → ℕ → ℕ → Tally → Tally
ran_tally pid time cost tally =
    if tally.pid == pid then record tally { ran = tally.ran + time; charged = tally.charged + cost } else tally

-- a tally after a switch to the task of this pid
abbrev pub picked_tally : ℕ → Tally → Tally
picked_tally pid tally = if tally.pid == pid then record tally { picks = tally.picks + 1 } else tally

-- what so many steps can have made of a tally at most
abbrev pub IsWithin : ℕ → Tally → Type 0
IsWithin steps tally = (tally.ran ≤ steps * 2 ^ 64) × (tally.charged ≤ steps * 2 ^ 64) × (tally.picks ≤ steps)

-- the stretch of who runs, as it stood before its charge and after it: it cost what its virtual runtime rose by
abbrev pub stretch_between : Option SchedEntity → Option SchedEntity → ℕ → Option Stretch
stretch_between (Some t) (Some u) time = Some (record { pid = t.pid; time = time; cost = nat_abs (u.v -ℤ t.v) })
stretch_between _ _ time = None

-- the tallies after a stretch of the runner, if there is one
abbrev pub stretched : Option Stretch → List Tally → List Tally
stretched None tallies = tallies
stretched (Some stretch) tallies = map (ran_tally stretch.pid stretch.time stretch.cost) tallies
