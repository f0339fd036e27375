-- Where the replays of all processors stand (this project's profile).
use Rattle.std.specs.Prelude.{◌≡◌, ℕ, zero, suc, ◌<◌, ◌≤◌, false, None, pos, List, [], ◌∷◌, length, slice_index_or}
use Rattle.cfs_model.specs.Claimed.{Claimed}
use Rattle.cfs_model.specs.Knobs.{KnobsView}
use Rattle.replay_model.specs.Cut.{steps_at}
use Rattle.replay_model.specs.Page.{ReplayStateView}
use Rattle.queue_replay.specs.Windowed.{WindowedView}
use Rattle.ticket_book.specs.Told.{empty_view}
use Rattle.window_laws.specs.Kept.{kept_of}
use Rattle.window_audit.specs.Member.{IsThroughWindow, replay_of}
use Rattle.window_audit.specs.declared.member.Member.{Member}

-- where nobody stands
abbrev pub empty_state : ReplayStateView
empty_state = record {
  part = record { tasks = λ pid. None; floor = pos 0; mark = 0 };
  since = None;
  page = empty_view;
}

-- a replay with the lists of its page emptied
abbrev pub forgotten : WindowedView → WindowedView
forgotten replay = record replay { state = kept_of replay.state }

-- where the replay of a processor stands, of some in the order of their numbers
abbrev pub state_at : List Member → ℕ → ReplayStateView
state_at [] cpu = empty_state
state_at (member ∷ members) zero = (replay_of member).state
state_at (member ∷ members) (suc cpu) = state_at members cpu

-- a replay of this processor, by these settings, of at most so many steps
pub record IsOwn (knobs : KnobsView) (cpu count : ℕ) (replay : WindowedView) : Type 0 where
  pub cpu_is : replay.cpu ≡ cpu
  pub knobs_are : replay.knobs ≡ knobs
  pub made : replay.made ≤ count

-- each of these is the replay of its processor
abbrev pub AreOwn : KnobsView → ℕ → List Member → Type 0
AreOwn knobs count members =
    (cpu : ℕ) (d : Member) → cpu < length members → IsOwn knobs cpu count (replay_of (slice_index_or members cpu d))

-- a member went through a window, unless a growth was refused
abbrev pub WentThrough : List Claimed → ℕ → ℕ → Member → Member → Type 0
WentThrough window last_time last_line before after =
    after.wants_memory ≡ false → IsThroughWindow (replay_of before) (steps_at (replay_of before).cpu window) last_time
    last_line (replay_of after)

-- so did all
abbrev pub AllWentThrough : List Claimed → ℕ → ℕ → List Member → List Member → Type 0
AllWentThrough window last_time last_line before after =
    (cpu : ℕ) (d : Member) → cpu < length before
    → WentThrough window last_time last_line (slice_index_or before cpu d) (slice_index_or after cpu d)
