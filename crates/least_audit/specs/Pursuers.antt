-- The pursuers of all processors (this project's profile).
use Rattle.std.specs.Prelude.{◌≡◌, ℕ, zero, suc, ◌<◌, None, List, [], ◌∷◌, ◌++◌, length, slice_index_or}
use Rattle.cfs_model.specs.Claimed.{Claimed}
use Rattle.cfs_model.specs.Knobs.{KnobsView, nothing}
use Rattle.replay_model.specs.Cut.{steps_at}
use Rattle.replay_model.specs.Needs.{largest}
use Rattle.replay_model.specs.Page.{ReplayStateView}
use Rattle.replay_model.specs.Record.{IsRecord}
use Rattle.replay_model.specs.Roll.{named, roll_of}
use Rattle.queue_replay.specs.Windowed.{WindowedView, windowed_view}
use Rattle.window_laws.specs.Kept.{kept_of}
use Rattle.window_laws.specs.SoFar.{IsSoFar}
use Rattle.need_laws.specs.LeastSoFar.{needs_at_end}
use Rattle.need_laws.specs.Reaching.{NeedsSoFar}
use Rattle.window_audit.specs.Audit.{Beginning}
use Rattle.window_audit.specs.States.{IsOwn, empty_state, forgotten}
use Rattle.least_audit.specs.Pursuit.{Pursues}
use Rattle.least_audit.specs.declared.pursuer.Pursuer.{Pursuer}
use Rattle.least_audit.specs.declared.rise.Rises.{Rises}

-- where nobody pursues
abbrev pub empty_view : WindowedView
empty_view = record { cpu = 0; knobs = nothing; made = 0; state = empty_state; needs = nothing }

abbrev pub empty_rises : Rises
empty_rises = record { granularity = None; credit = None; debit = None; slack = None; drift = None }

-- the replay of a processor, of some in the order of their numbers, and where its needs rose
abbrev pub view_at : List Pursuer → ℕ → WindowedView
view_at [] cpu = empty_view
view_at (pursuer ∷ pursuers) zero = windowed_view pursuer.replay
view_at (pursuer ∷ pursuers) (suc cpu) = view_at pursuers cpu

abbrev pub rises_of : List Pursuer → ℕ → Rises
rises_of [] cpu = empty_rises
rises_of (pursuer ∷ pursuers) zero = pursuer.rises
rises_of (pursuer ∷ pursuers) (suc cpu) = rises_of pursuers cpu

-- what is kept of where it stands
abbrev pub kept_at : List Pursuer → ℕ → ReplayStateView
kept_at pursuers cpu = kept_of (view_at pursuers cpu).state

-- one for each processor, which has gone through its steps among the events so far
pub record ArePursuers (of : Beginning) (so_far : List Claimed) (pursuers : List Pursuer) : Type 0 where
  pub count : length pursuers ≡ of.cpus
  pub own : (cpu : ℕ) → cpu < of.cpus → IsOwn of.knobs cpu (length so_far) (view_at pursuers cpu)
  pub needs : (cpu : ℕ) → cpu < of.cpus
      → NeedsSoFar of.knobs of.start of.floors of.tasks so_far cpu (kept_at pursuers cpu) (view_at pursuers cpu).needs

-- one went through a window
abbrev pub PursuedOn : List Claimed → Pursuer → Pursuer → Type 0
PursuedOn window before after =
    Pursues (forgotten (windowed_view before.replay)) (steps_at (windowed_view before.replay).cpu window)
    (windowed_view after.replay) after.rises

-- so did all
abbrev pub AllPursuedOn : List Claimed → List Pursuer → List Pursuer → Type 0
AllPursuedOn window before after =
    (cpu : ℕ) (d : Pursuer) → cpu < length before
    → PursuedOn window (slice_index_or before cpu d) (slice_index_or after cpu d)

-- behind some events they went through a window, with which the events are still a run
pub record IsWindowPursued (of : Beginning) (so_far window : List Claimed) (before after : List Pursuer) : Type 0 where
  pub is_record : IsRecord of.start of.floors of.tasks (so_far ++ window) of.cpus
  pub behind : ℕ → ReplayStateView
  pub run : IsSoFar of.knobs of.start of.floors of.tasks (so_far ++ window) of.cpus behind
      (roll_of (named of.tasks) (so_far ++ window))
  pub pursuers : ArePursuers of so_far before
  pub count : length after ≡ length before
  pub pursued : AllPursuedOn window before after

-- what is needed of each setting behind some events
abbrev pub needs_behind : Beginning → List Claimed → List Pursuer → KnobsView
needs_behind of events pursuers =
    largest (λ cpu. needs_at_end of.start events (kept_at pursuers cpu) (view_at pursuers cpu).needs) of.cpus
