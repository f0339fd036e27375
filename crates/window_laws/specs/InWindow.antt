-- A processor in a window, and what the pages of all processors say of the window's events (this project's profile).
use Rattle.std.specs.Prelude.{◌≡◌, ℕ, ◌<◌, ◌≤◌, ◌⊎◌, nat_le, if◌then◌else◌, Bool, ℤ, IsSome, List, ◌++◌, length, take}
use Rattle.std.specs.List.{AllByRecursion}
use Rattle.cfs_model.specs.Knobs.{KnobsView}
use Rattle.cfs_model.specs.Claimed.{Claimed}
use Rattle.replay_model.specs.Cut.{StreamView, cut, steps_at}
use Rattle.replay_model.specs.Noted.{PageView}
use Rattle.replay_model.specs.Page.{ReplayStateView, IsReplay, end_page}
use Rattle.replay_model.specs.Roll.{BirthsAreNew}
use Rattle.replay_model.specs.Tickets.{TicketsAgree}
use Rattle.replay_laws.specs.Sufficing.{HasFaultBy}
use Rattle.replay_laws.specs.Telling.{ComesAfter}
use Rattle.cfs_model.specs.declared.task.Task.{Task}

-- the page where a processor's replay of so many of a window's steps ends: with all of them the end test follows, at
-- the last time of the stream up to the window's end
abbrev pub window_page : ℕ → StreamView → ℕ → ℕ → ReplayStateView → PageView
window_page slack stream count made end =
    if nat_le count made then end_page slack stream end.since end.page.fault end.page else end.page

-- the page of a processor in a window suffices among those of all: from what was kept, the replay of so many of the
-- window's steps ends so, and its page is this; and the page has a fault, or all steps are made, or another page has a
-- fault on a line up to that of the last step made
pub record SufficesInWindow (knobs : KnobsView) (start : ℕ) (floors : List ℤ) (tasks : List Task)
    (before window : List Claimed) (cpus : ℕ) (kept ends : ℕ → ReplayStateView) (pages : ℕ → PageView) (cpu : ℕ)
    : Type 0 where
  pub made : ℕ
  pub replay : IsReplay knobs cpu (kept cpu) (take made (steps_at cpu window)) (ends cpu)
  pub is_page : pages cpu
      ≡ window_page knobs.slack (cut start floors tasks (before ++ window) cpu) (length (steps_at cpu window)) made
      (ends cpu)
  pub enough : IsSome (pages cpu).fault ⊎ (length (steps_at cpu window) ≤ made)
      ⊎ HasFaultBy pages cpus (pages cpu).line

-- the pages say nothing against these events of a window, before which these pids are alive: no fault is due at them,
-- the tickets of each migration agree, and each birth is new
pub record SayNothingInWindow (pages : ℕ → PageView) (cpus : ℕ) (alive : ℕ → Bool) (events : List Claimed)
    : Type 0 where
  pub no_fault : (cpu : ℕ) → cpu < cpus → ComesAfter events cpu (pages cpu).fault
  pub tickets : AllByRecursion (λ event. TicketsAgree pages event.entry.line event.entry.act) events
  pub births : BirthsAreNew alive events
