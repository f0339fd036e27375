-- What is seen of a processor between two events (this project's profile).
use Rattle.std.specs.Prelude.{◌≡◌, ℕ, Option}
use Rattle.queue_replay.specs.Made.{IsPartAfter}
use Rattle.queue_replay.specs.Replay.{ReplayView}
use Rattle.replay_model.specs.Part.{Part}
use Rattle.replay_model.specs.declared.step.Deed.{Deed}
use Rattle.replay_model.specs.declared.step.Deed.TheVariants.{Switch, Wake, Born, Leave, Arrive}
use Rattle.runqueue.specs.Queue.{IsLeastIfWaiting, IsTaskAt, IsTheRunner}
use Rattle.state_lines.specs.declared.glance.Glance.{Glance}

-- the task that a deed is of; of a switch the previous one
abbrev pub subject_of : Deed → ℕ
subject_of (Switch prev prev_nice way next next_nice) = prev
subject_of (Wake pid nice) = pid
subject_of (Born pid nice policy) = pid
subject_of (Leave pid nice dest) = pid
subject_of (Arrive pid nice orig policy) = pid

-- a glance shows this part, and of its tasks that of a pid
pub record IsGlanceOf (part : Part) (pid : ℕ) (glance : Glance) : Type 0 where
  pub runner : IsTheRunner part glance.runner
  pub task : IsTaskAt part pid glance.task
  pub floor : glance.floor ≡ part.floor
  pub mark : glance.mark ≡ part.mark
  pub least : IsLeastIfWaiting part glance.least

-- it shows the processor of a replay after the steps that this has made
pub record IsGlanceAt (replay : ReplayView) (pid : ℕ) (glance : Glance) : Type 0 where
  pub part : Part
  pub idled : Option ℕ
  pub stands : IsPartAfter replay.stream replay.knobs replay.made part idled
  pub shows : IsGlanceOf part pid glance
  pub idle_part : Part
  pub since : IsPartAfter replay.stream replay.knobs replay.made idle_part glance.since
