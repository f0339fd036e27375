-- The replay of one processor alone, by its first steps (this project's profile).
use Rattle.std.specs.Prelude.{◌≡◌, ℕ, ◌+◌, if◌then◌else◌, nat_lt, nat_le, Option, Some, None, unwrap_or, ◌⊎◌, List, []}
use Rattle.std.specs.Prelude.{◌∷◌, map, length, take}
use Rattle.cfs_model.specs.Limits.{no_line}
use Rattle.cfs_model.specs.Knobs.{KnobsView}
use Rattle.replay_model.specs.Part.{Part}
use Rattle.replay_model.specs.PartWords.{PartIdles, start_part}
use Rattle.replay_model.specs.Found.{IsFound}
use Rattle.replay_model.specs.AfterDeed.{after_deed}
use Rattle.replay_model.specs.Tests.{FirstHolds, NoneHolds, early_tests, late_tests, PassesTests}
use Rattle.replay_model.specs.QueueTests.{IsIdleTooLong}
use Rattle.replay_model.specs.Cut.{StreamView}
use Rattle.replay_model.specs.Noted.{PageView, new_tally, noted}
use Rattle.cfs_model.specs.declared.kind.Kind.{Kind}
use Rattle.cfs_model.specs.declared.kind.Kind.TheVariants.{IdleTooLong}
use Rattle.replay_model.specs.declared.page.StepFault.{StepFault}
use Rattle.replay_model.specs.declared.step.Step.{Step}

-- a replay after some steps
pub record ReplayStateView : Type 0 where
  pub part : Part
  -- since when nothing has run here while somebody waited, if that is so
  pub since : Option ℕ
  pub page : PageView

-- since when nothing runs beside a waiting task, after an event at this time: still, or from now on, or not at all
abbrev pub IsSince : Option ℕ → ℕ → Part → Option ℕ → Type 0
IsSince before time part since =
    (PartIdles part × (since ≡ Some (unwrap_or before time))) ⊎ ((¬ PartIdles part) × (since ≡ None))

-- the replay goes on by a step that passes
pub record PassesStep (knobs : KnobsView) (cpu : ℕ) (before : ReplayStateView) (step : Step) (after : ReplayStateView)
    : Type 0 where
  pub in_time : (pid : ℕ) → ¬ IsIdleTooLong knobs.slack before.since step.time pid
  pub found : Part
  pub passes : PassesTests knobs cpu before.part step found
  pub part : after.part ≡ after_deed found step.deed step.claim
  pub since : IsSince before.since step.time after.part after.since
  pub page : after.page ≡ noted before.page before.part found step

-- the first test that holds at a step is of this kind, and names this pid
abbrev pub FailsTest : KnobsView → ℕ → ReplayStateView → Step → Kind → ℕ → Type 0
FailsTest knobs cpu before step kind pid =
    FirstHolds (early_tests knobs before.since before.part step) kind pid
    ⊎ ((found : Part) × NoneHolds (early_tests knobs before.since before.part step)
    × IsFound step before.part found × FirstHolds (late_tests knobs cpu found step) kind pid)

-- until when the processor could idle; for a fault of that kind alone
abbrev pub deadline_of : Kind → ℕ → Option ℕ → Option ℕ
deadline_of IdleTooLong slack (Some since) = Some (since + slack)
deadline_of _ slack since = None

-- a state whose page has this fault
abbrev pub with_fault : ReplayStateView → StepFault → ReplayStateView
with_fault before fault = record before { page = record (before.page) { fault = Some fault } }

-- the replay ends with a step that fails: it adds the fault alone
pub record FailsStep (knobs : KnobsView) (cpu : ℕ) (before : ReplayStateView) (step : Step) (after : ReplayStateView)
    : Type 0 where
  pub kind : Kind
  pub pid : ℕ
  pub fails : FailsTest knobs cpu before step kind pid
  pub result : after ≡ with_fault before (record {
    line = step.line;
    kind = kind;
    pid = pid;
    deadline = deadline_of kind knobs.slack before.since;
  })

-- one step of the replay; after a fault no step changes anything
abbrev pub IsReplayStep : KnobsView → ℕ → Option StepFault → ReplayStateView → Step → ReplayStateView → Type 0
IsReplayStep knobs cpu None before step after =
    PassesStep knobs cpu before step after ⊎ FailsStep knobs cpu before step after
IsReplayStep knobs cpu (Some fault) before step after = after ≡ before

-- the replay of some steps
abbrev pub IsReplay : KnobsView → ℕ → ReplayStateView → List Step → ReplayStateView → Type 0
IsReplay knobs cpu before [] after = after ≡ before
IsReplay knobs cpu before (step ∷ steps) after =
    (between : ReplayStateView) × IsReplayStep knobs cpu before.page.fault before step between
    × IsReplay knobs cpu between steps after

-- the page of a processor before its first step
abbrev pub start_page : StreamView → PageView
start_page stream = record {
  line = no_line;
  fault = None;
  left = [];
  came = [];
  births = [];
  deaths = [];
  tallies = map (λ t. new_tally t.pid) stream.tasks;
}

-- a replay before its first step
pub record IsStartOf (stream : StreamView) (progress : ReplayStateView) : Type 0 where
  pub part : progress.part ≡ start_part stream.tasks stream.floor stream.start
  pub since : IsSince None stream.start progress.part progress.since
  pub page : progress.page ≡ start_page stream

-- the end test: a processor that still idles beside a waiting task at the record's last time has idled for too long
abbrev pub end_page : ℕ → StreamView → Option ℕ → Option StepFault → PageView → PageView
end_page slack stream (Some since) None page =
    if nat_lt (since + slack) stream.last_time
    then record page {
      fault = Some (record {
        line = stream.last_line;
        kind = IdleTooLong;
        pid = 0;
        deadline = Some (since + slack);
      });
    }
    else page
end_page slack stream _ fault page = page

-- the page of a processor's stream by its first steps: with all of them the end test follows
pub record IsPageOf (stream : StreamView) (knobs : KnobsView) (made : ℕ) (page : PageView) : Type 0 where
  pub start : ReplayStateView
  pub is_start : IsStartOf stream start
  pub end : ReplayStateView
  pub replay : IsReplay knobs stream.cpu start (take made stream.steps) end
  pub result : page ≡ (if nat_le (length stream.steps) made
      then end_page knobs.slack stream end.since end.page.fault end.page
      else end.page)
