-- A replay under way, as the definitions have it (this project's profile).
use Rattle.std.specs.Prelude.{◌≡◌, ℕ, ◌+◌, None, ◌⊎◌, All}
use Rattle.cfs_model.specs.Knobs.{KnobsView}
use Rattle.cfs_model.specs.declared.kind.Kind.TheVariants as kind
use Rattle.replay_model.specs.Page.{ReplayStateView, FailsStep}
use Rattle.replay_model.specs.declared.page.StepFault.{StepFault}
use Rattle.replay_model.specs.declared.step.Step.{Step}
use Rattle.queue_replay.specs.Counting.{page_draft_view}
use Rattle.queue_replay.specs.Indices.{pids_of}
use Rattle.queue_replay.specs.Needing.{PassesRaising}
use Rattle.runqueue.specs.Queue.{runqueue_view}
use Rattle.runqueue.specs.declared.charging.ChargeFault.{ChargeFault}
use Rattle.runqueue.specs.declared.charging.ChargeFault.TheVariants.{Range, Told}
use Rattle.runqueue.specs.declared.runqueue.Runqueue.{Runqueue}
use Rattle.queue_replay.specs.Stretches.{IsWithin}
use Rattle.queue_replay.specs.declared.page_draft.PageDraft.{PageDraft}
use Rattle.queue_replay.specs.declared.replay_state.ReplayState.{ReplayState}

abbrev pub replay_state_view : ReplayState → ReplayStateView
replay_state_view state = record {
  part = runqueue_view state.queue;
  since = state.since;
  page =
      page_draft_view state.draft;
}

-- the tallies stand by the rows of the runqueue
abbrev pub AreByRows : Runqueue → PageDraft → Type 0
AreByRows queue draft = pids_of draft.tallies.list.items ≡ queue.tasks.pids

-- no step has failed so far
pub record IsGoing (state : ReplayState) : Type 0 where
  pub fault : state.draft.fault ≡ None
  pub within : All (IsWithin state.made) state.draft.tallies.list.items
  pub by_rows : AreByRows state.queue state.draft

-- the step passed, and was noted
pub record IsPassed (knobs : KnobsView) (cpu : ℕ) (old : ReplayState) (step : Step) (new : ReplayState) : Type 0 where
  pub passes : PassesRaising knobs cpu (replay_state_view old) old.needs step (replay_state_view new)
      new.needs
  pub within : All (IsWithin (old.made + 1)) new.draft.tallies.list.items
  pub by_rows : AreByRows new.queue new.draft

-- a step was made, which passed, or failed
abbrev pub IsStepped : KnobsView → ℕ → ReplayStateView → KnobsView → Step → ReplayState → Type 0
IsStepped knobs cpu before needed step new =
    (PassesRaising knobs cpu before needed step (replay_state_view new) new.needs × IsGoing new)
    ⊎ FailsStep knobs cpu before step (replay_state_view new)

-- a step that failed, or met want of memory, was undone
pub record IsUndone (old new : ReplayState) : Type 0 where
  pub made : new.made ≡ old.made
  pub part : runqueue_view new.queue ≡ runqueue_view old.queue
  pub pids : new.queue.tasks.pids ≡ old.queue.tasks.pids
  pub since : new.since ≡ old.since
  pub needs : new.needs ≡ old.needs
  pub noted : page_draft_view new.draft ≡ page_draft_view old.draft

-- the fault on this line of a charge that can't be made
abbrev pub failed_charge : ℕ → ChargeFault → StepFault
failed_charge line (Range pid) = record { line = line; kind = kind.Range; pid = pid; deadline = None }
failed_charge line (Told pid) = record { line = line; kind = kind.WrongCharge; pid = pid; deadline = None }
