-- What a yes says of each moment of the run (this project's profile): no task runs on two processors or waits in two
-- queues, each charge is the quotient of the time by the weight, rounded down, or as told within the drift, and each
-- pick is within the granularity.
use Rattle.std.specs.Prelude.{◌≡◌, ℕ, suc, ◌-◌, ◌*◌, ◌/◌, ◌⊎◌, ⊤, Option, Some, None, List, [], ◌∷◌, ℤ, pos, ◌+ℤ◌, ◌≤ℤ◌}
use Rattle.cfs_model.specs.Claimed.{Claimed}
use Rattle.cfs_model.specs.Lifted.{IsLifted}
use Rattle.cfs_model.specs.Machine.{Machine, Stands}
use Rattle.cfs_model.specs.Nice.{task_weight}
use Rattle.cfs_model.specs.Knobs.{KnobsView}
use Rattle.cfs_model.specs.Start.{start_machine}
use Rattle.cfs_model.specs.Told.{IsWithin, drift_after}
use Rattle.cfs_model.specs.Touch.{touched}
use Rattle.cfs_model.specs.declared.act.Act.{Act}
use Rattle.cfs_model.specs.declared.act.Act.TheVariants.{Switch}
use Rattle.cfs_model.specs.declared.charge_line.ChargeLine.{ChargeLine}
use Rattle.cfs_model.specs.declared.task.Place.TheVariants.{Run, Wait}
use Rattle.sched_record.specs.Record.{RecordView}
use Rattle.ticket_book.specs.SaidEvents.{events_of}
use Rattle.ticket_book.specs.SummaryView.{SummaryView}
use Rattle.ticket_book.specs.Verdict.{IsScheduled}
use Rattle.audit_input.specs.Texts.{IsRecordOf}

-- no task runs on two processors, waits in two queues, or runs and waits; and no two tasks run on one processor
pub record IsOrderly (m : Machine) : Type 0 where
  pub one_processor : (pid cpu other : ℕ) → Stands m Run cpu pid → Stands m Run other pid → cpu ≡ other
  pub one_queue : (pid cpu other : ℕ) → Stands m Wait cpu pid → Stands m Wait other pid → cpu ≡ other
  pub not_both : (pid cpu other : ℕ) → Stands m Run cpu pid → ¬ Stands m Wait other pid
  pub one_runs : (cpu pid other : ℕ) → Stands m Run cpu pid → Stands m Run cpu other → pid ≡ other

-- the processor is one of these
abbrev pub IsAmong : ℕ → List ℕ → Type 0
IsAmong cpu [] = ⊥
IsAmong cpu (one ∷ cpus) = (cpu ≡ one) ⊎ IsAmong cpu cpus

-- a charge is told, and of this pid
abbrev pub IsToldOf : Option ChargeLine → ℕ → Type 0
IsToldOf None pid = ⊥
IsToldOf (Some line) pid = line.pid ≡ pid

-- who had this nice value and this virtual runtime is charged as the line tells: its virtual runtime is the told one,
-- which isn't below; its drift grows by how much that is above the exact one, and stays within the bound
pub record IsChargedAs (bound time cpu : ℕ) (line : ChargeLine) (nice v : ℤ) (before after : Machine) : Type 0 where
  pub runtime : after.runtime line.pid ≡ Some line.v
  pub rises : v ≤ℤ line.v
  pub drift : after.drift line.pid ≡ drift_after (before.drift line.pid) line.v
      (v +ℤ pos ((time - before.mark cpu) * 1024 / task_weight nice (before.policy line.pid)))
  pub within : IsWithin bound (after.drift line.pid)

-- at a time, who runs at one of these processors is charged for the time since the last charge there: this times 1024,
-- divided by the task's weight, rounded down; but one of whom a charge is told, as it is told; and nobody else is
-- charged
pub record AreCharged (bound time : ℕ) (charge : Option ChargeLine) (cpus : List ℕ) (before after : Machine) : Type 0
  where
    pub quotient : (cpu pid : ℕ) (nice v : ℤ) → IsAmong cpu cpus → Stands before Run cpu pid
        → before.nice pid ≡ Some nice → before.runtime pid ≡ Some v → ¬ IsToldOf charge pid
        → after.runtime pid ≡ Some (v +ℤ pos ((time - before.mark cpu) * 1024 / task_weight nice (before.policy pid)))
    pub runs : (line : ChargeLine) → charge ≡ Some line
        → (cpu : ℕ) × IsAmong cpu cpus × Stands before Run cpu line.pid
    pub told : (line : ChargeLine) → charge ≡ Some line → (cpu : ℕ) (nice v : ℤ) → Stands before Run cpu line.pid
        → before.nice line.pid ≡ Some nice → before.runtime line.pid ≡ Some v
        → IsChargedAs bound time cpu line nice v before after
    pub others : (pid : ℕ) → ((cpu : ℕ) → IsAmong cpu cpus → ¬ Stands before Run cpu pid)
        → after.runtime pid ≡ before.runtime pid

-- behind a switch to a task it runs there, with a virtual runtime at most the granularity above that of each task that
-- waits there
abbrev pub IsPickedWithin : ℕ → Act → Machine → Type 0
IsPickedWithin granularity (Switch cpu prev prev_nice way (suc n) next_nice) after =
    Stands after Run cpu (suc n)
    × ((v : ℤ) × (after.runtime (suc n) ≡ Some v)
    × ((other : ℕ) (w : ℤ) → Stands after Wait cpu other → after.runtime other ≡ Some w
    → v ≤ℤ (w +ℤ pos granularity)))
IsPickedWithin granularity _ after = ⊤

-- of a step: the charges between the machine before it and the one that its event's time leads to, the pick, and the
-- machine behind it
pub record IsLawful (knobs : KnobsView) (before : Machine) (event : Claimed) (after : Machine) : Type 0 where
  pub lifted : Machine
  pub is_lifted : IsLifted knobs.drift event.entry.time event.charge (touched event.entry.act) before lifted
  pub charges : AreCharged knobs.drift event.entry.time event.charge (touched event.entry.act) before lifted
  pub pick : IsPickedWithin knobs.granularity event.entry.act after
  pub orderly : IsOrderly after

-- each step is
abbrev pub AreLawful : KnobsView → Machine → List Claimed → List Machine → Type 0
AreLawful knobs before [] [] = ⊤
AreLawful knobs before (event ∷ events) (after ∷ states) = IsLawful knobs before event after
    × AreLawful knobs after events states
AreLawful knobs before _ _ = ⊥

-- the record of two texts starts so that no task is in two places
abbrev pub TextsStartOrderly : Type 0
TextsStartOrderly = (trace companion : List ℕ) (r : RecordView) → IsRecordOf trace companion r
    → IsOrderly (start_machine r.start r.floors r.tasks)

-- and where it is scheduled, each step of its run is lawful
abbrev pub YesIsLawful : Type 0
YesIsLawful = (knobs : KnobsView) (trace companion : List ℕ) (r : RecordView) (summary : SummaryView)
    → IsRecordOf trace companion r → (scheduled : IsScheduled knobs r summary)
    → AreLawful knobs (start_machine r.start r.floors r.tasks) (events_of r) scheduled.run.states
