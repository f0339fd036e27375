-- Which texts are refused although they can be read (the print formats of the scheduler's trace events; the ranges and
-- the prios of fair tasks are this project's profile).
use Rattle.std.specs.Prelude.{ℕ, ◌==◌, ◌||◌, Bool, false, if◌then◌else◌, nat_lt, ℤ, pos, neg_ℤ, ◌≤ℤ◌, List, [], ◌∷◌}
use Rattle.std.specs.Prelude.{◌++◌, ◌⊎◌}
use Rattle.std.specs.List.{list_any}
use Rattle.cfs_model.specs.Limits.{greatest_pid, greatest_processor, idle_pid}
use Rattle.text_parts.specs.Numerals.{value_of}
use Rattle.sched_event.specs.Texts.{Prio, EventText, switch, wakeup, wakeup_new, migration}

-- the number of a printed prio
abbrev pub prio_of : Prio → ℤ
prio_of prio = if prio.minus then neg_ℤ (pos (value_of prio.digits)) else pos (value_of prio.digits)

-- the pids that a text names
abbrev pub pids_named : EventText → List ℕ
pids_named (switch text) = value_of text.prev ∷ value_of text.next ∷ []
pids_named (wakeup text) = value_of text.pid ∷ []
pids_named (wakeup_new text) = value_of text.pid ∷ []
pids_named (migration text) = value_of text.pid ∷ []

-- the processors that a text names
abbrev pub cpus_named : EventText → List ℕ
cpus_named (switch text) = []
cpus_named (wakeup text) = value_of text.target ∷ []
cpus_named (wakeup_new text) = value_of text.target ∷ []
cpus_named (migration text) = value_of text.orig ∷ value_of text.dest ∷ []

-- some pid or some processor is above its greatest number
abbrev pub is_out_of_range : EventText → Bool
is_out_of_range text = list_any (nat_lt greatest_pid) (pids_named text)
    || list_any (nat_lt greatest_processor) (cpus_named text)

-- a prio is looked at unless its pid is the idle task's
abbrev pub looked_at : List ℕ → Prio → List ℤ
looked_at pid prio = if value_of pid == idle_pid then [] else prio_of prio ∷ []

-- the prios that are looked at, from the left
abbrev pub prios_of : EventText → List ℤ
prios_of (switch text) = looked_at text.prev text.prev_prio ++ looked_at text.next text.next_prio
prios_of (wakeup text) = looked_at text.pid text.prio
prios_of (wakeup_new text) = looked_at text.pid text.prio
prios_of (migration text) = looked_at text.pid text.prio

-- a fair task prints a prio from 100 to 139
abbrev pub IsFair : ℤ → Type 0
IsFair prio = (pos 100 ≤ℤ prio) × (prio ≤ℤ pos 139)

-- a prio has the property P, and each one left of it is a fair task's
abbrev pub Leftmost : (ℤ → Type 0) → List ℤ → Type 0
Leftmost P [] = ⊥
Leftmost P (prio ∷ prios) = P prio ⊎ (IsFair prio × Leftmost P prios)

-- the idle task is woken, born or migrated
abbrev pub names_idle : EventText → Bool
names_idle (switch text) = false
names_idle (wakeup text) = value_of text.pid == idle_pid
names_idle (wakeup_new text) = value_of text.pid == idle_pid
names_idle (migration text) = value_of text.pid == idle_pid
