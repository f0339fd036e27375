-- The tags of the pages that an auditor may post of a stream (this project's profile).
use Rattle.std.specs.Prelude.{◌≡◌, ℕ, ◌+◌, ◌<◌, ◌≤◌, ◌⊎◌, None, Some, IsSome, List, [], ◌∷◌, length, slice_get}
use Rattle.cfs_model.specs.Knobs.{KnobsView}
use Rattle.replay_model.specs.Cut.{StreamView}
use Rattle.replay_model.specs.Noted.{PageView}
use Rattle.replay_model.specs.Page.{IsPageOf}
use Rattle.replay_model.specs.declared.page.StepFault.{StepFault}
use Rattle.replay_model.specs.declared.step.Step.{Step}
use Rattle.queue_replay.specs.Made.{IsFaultless, reached_of}
use Rattle.queue_replay.specs.Replay.{ReplayView}
use Rattle.queue_replay.specs.declared.tag.Reached.{Reached}
use Rattle.queue_replay.specs.declared.tag.Reached.TheVariants.{Stopped, Done, Faulted}
use Rattle.queue_replay.specs.declared.tag.Tag.{Tag}

-- the tag of a page
abbrev pub tag_of : ReplayView → Tag
tag_of page = record { cpu = page.stream.cpu; reached = reached_of page.page page.made (length page.stream.steps) }

-- a replay stopped on a line that isn't before the one told: it has made some steps, none of which failed, and some are
-- left
pub record HasStopped (replay : ReplayView) (told : ℕ) : Type 0 where
  pub some : 0 < replay.made
  pub left : replay.made < length replay.stream.steps
  pub no_fault : replay.page.fault ≡ None
  pub past : told ≤ replay.page.line

-- a replay has no step left, or its last one failed, or it stopped
abbrev pub IsThrough : ReplayView → ℕ → Type 0
IsThrough replay told =
    IsSome replay.page.fault ⊎ (replay.made ≡ length replay.stream.steps) ⊎ HasStopped replay told

-- the replay of a stream by all its steps has a fault, at this line
pub record IsFaultyAt (stream : StreamView) (knobs : KnobsView) (line : ℕ) : Type 0 where
  pub page : PageView
  pub is_page : IsPageOf stream knobs (length stream.steps) page
  pub fault : StepFault
  pub is_fault : page.fault ≡ Some fault
  pub at_line : fault.line ≡ line

-- the replay of a stream passes a step of this line and each before it, and the line isn't before the one told
pub record IsStoppedAt (stream : StreamView) (knobs : KnobsView) (told line : ℕ) : Type 0 where
  pub index : ℕ
  pub step : Step
  pub is_step : slice_get stream.steps index ≡ Some step
  pub at_line : step.line ≡ line
  pub passes : IsFaultless stream knobs (index + 1)
  pub past : told ≤ line

-- how far an auditor goes in the replay of a stream, where a line was told to it last: to the replay's first fault, or
-- to its end, or to a line that isn't before the one told
abbrev pub IsReachOf : StreamView → KnobsView → ℕ → Reached → Type 0
IsReachOf stream knobs told (Faulted line) = IsFaultyAt stream knobs line
IsReachOf stream knobs told Done = IsFaultless stream knobs (length stream.steps)
IsReachOf stream knobs told (Stopped line) = IsStoppedAt stream knobs told line

-- a tag that the replay of a stream gives
abbrev pub IsTagOf : StreamView → KnobsView → ℕ → Tag → Type 0
IsTagOf stream knobs told tag = (tag.cpu ≡ stream.cpu) × IsReachOf stream knobs told tag.reached

-- just one tag, which the replay of a stream gives
abbrev pub IsOneTag : StreamView → KnobsView → ℕ → List Tag → Type 0
IsOneTag stream knobs told tags = (tag : Tag) × (tags ≡ tag ∷ []) × IsTagOf stream knobs told tag
