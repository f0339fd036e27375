-- The two numbers that the rule of a fault compares: what was found, and the least, the greatest or that alone which is
-- allowed. They are those of the processor just before the event on the fault's line, or as the event finds it (this
-- project's profile). Rules that compare no numbers have none.
use Rattle.std.specs.Prelude.{◌≡◌, ℕ, zero, suc, ◌-◌, nat_lt, if◌then◌else◌, Option, Some, None, ℤ, pos, nat_abs}
use Rattle.std.specs.Prelude.{◌+ℤ◌, ◌-ℤ◌, ◌≤ℤ◌, ◌<ℤ◌, ◌⊎◌, List, [], ◌∷◌, slice_get}
use Rattle.std.specs.BTreeSet.{BTreeSet, btree_set_len}
use Rattle.std.specs.Int.{int_max}
use Rattle.cfs_model.specs.Charge.{greatest}
use Rattle.cfs_model.specs.Knobs.{KnobsView}
use Rattle.cfs_model.specs.Told.{drift_after}
use Rattle.cfs_model.specs.declared.act.Entry.{Entry}
use Rattle.cfs_model.specs.declared.charge_line.ChargeLine.{ChargeLine}
use Rattle.cfs_model.specs.declared.claim.Claim.{Claim}
use Rattle.cfs_model.specs.declared.policy.Policy.{Policy}
use Rattle.cfs_model.specs.declared.kind.Kind.{Kind}
use Rattle.cfs_model.specs.declared.kind.Kind.TheVariants as kind
use Rattle.cfs_model.specs.declared.task.Place.TheVariants.{Run}
use Rattle.queue_replay.specs.Made.{IsPartAfter}
use Rattle.replay_model.specs.Deeds.{part_after_prev}
use Rattle.replay_model.specs.Found.{IsFound}
use Rattle.replay_model.specs.Needs.{IsLeastWaiting}
use Rattle.replay_model.specs.Part.{Part, Entity, IsIn, cost_in}
use Rattle.replay_model.specs.QueueTests.{IsRunner}
use Rattle.replay_model.specs.declared.first_fault.FirstFault.{FirstFault}
use Rattle.replay_model.specs.declared.step.Deed.{Deed}
use Rattle.replay_model.specs.declared.step.Deed.TheVariants.{Switch, Wake, Born, Leave, Arrive}
use Rattle.replay_model.specs.declared.step.Step.{Step}
use Rattle.runqueue.specs.Entities.{IsWaitingSet}
use Rattle.runqueue.specs.declared.waiting_task.WaitingTask.{WaitingTask}
use Rattle.sched_record.specs.Record.{RecordView}
use Rattle.sched_record.specs.Stream.{cut_of}

-- how many steps are on the lines before one
abbrev pub steps_before : ℕ → List Step → ℕ
steps_before line [] = 0
steps_before line (step ∷ steps) = if nat_lt step.line line then suc (steps_before line steps) else 0

-- the part of a processor just before a line, and since when it has idled beside a waiting task, if that is so
abbrev pub IsBefore : KnobsView → RecordView → ℕ → ℕ → Part → Option ℕ → Type 0
IsBefore knobs r cpu line part since =
    IsPartAfter (cut_of r cpu) knobs (steps_before line (cut_of r cpu).steps) part since

-- what a processor sees of the event on a line
abbrev pub IsStepOn : RecordView → ℕ → ℕ → Step → Type 0
IsStepOn r cpu line step =
    (slice_get (cut_of r cpu).steps (steps_before line (cut_of r cpu).steps) ≡ Some step) × (step.line ≡ line)

-- a processor just before a line, and what it sees of the event there
pub record IsMoment (knobs : KnobsView) (r : RecordView) (cpu line : ℕ) (part : Part) (step : Step) : Type 0 where
  pub since : Option ℕ
  pub before : IsBefore knobs r cpu line part since
  pub step_is : IsStepOn r cpu line step

-- the same, with the part as the event finds it
pub record IsReady (knobs : KnobsView) (r : RecordView) (cpu line : ℕ) (found : Part) (step : Step) : Type 0 where
  pub part : Part
  pub moment : IsMoment knobs r cpu line part step
  pub is_found : IsFound step part found

-- a number of virtual nanoseconds beside bounds: the least where it is below, else the greatest
abbrev pub IsBesideBounds : ℤ → ℤ → ℤ → ℤ → Type 0
IsBesideBounds value least greatest limit =
    ((value <ℤ least) × (limit ≡ least)) ⊎ ((least ≤ℤ value) × (limit ≡ greatest))

-- a pid beside that of who runs; pid 0 where nobody does
abbrev pub IsBesideRunner : Part → ℕ → ℤ → ℤ → Type 0
IsBesideRunner part pid value limit =
    (value ≡ pos pid) × ((runner : ℕ) × IsRunner part runner × (limit ≡ pos runner))

-- where the exact charge of who runs leads, or what it costs where that alone is too much; neither may be above the
-- greatest
abbrev pub IsBesideRange : Part → Step → ℕ → ℤ → ℤ → Type 0
IsBesideRange part step pid value limit =
    (limit ≡ pos greatest)
    × ((s : Entity) × (part.tasks pid ≡ Some s) × (s.place ≡ Run)
    × (((pos greatest <ℤ (s.runtime +ℤ pos (cost_in part step.time s)))
    × (value ≡ s.runtime +ℤ pos (cost_in part step.time s)))
    ⊎ (((s.runtime +ℤ pos (cost_in part step.time s)) ≤ℤ pos greatest) × (value ≡ pos (cost_in part step.time s)))))

-- how far a told charge leaves its task's drift from none, and the setting; or where it leads, and where its task was,
-- below which none may
abbrev pub IsBesideDrift : ℕ → Part → Step → ChargeLine → ℤ → ℤ → Type 0
IsBesideDrift bound part step charge value limit =
    (s : Entity) × (part.tasks charge.pid ≡ Some s) × (s.place ≡ Run)
    × (((charge.v <ℤ s.runtime) × (value ≡ charge.v) × (limit ≡ s.runtime))
    ⊎ ((s.runtime ≤ℤ charge.v)
    × (value ≡ pos (nat_abs (drift_after s.drift charge.v (s.runtime +ℤ pos (cost_in part step.time s)))))
    × (limit ≡ pos bound)))

-- the same; or whose it is, and who runs, where it is of a task that doesn't run
abbrev pub IsBesideTold : ℕ → Part → Step → ℤ → ℤ → Type 0
IsBesideTold bound part step value limit =
    (charge : ChargeLine) × (step.charge ≡ Some charge)
    × (IsBesideDrift bound part step charge value limit
    ⊎ ((¬ IsIn part Run charge.pid) × IsBesideRunner part charge.pid value limit))

-- the nice value that a deed prints of a pid; of a switch's two the previous one first
abbrev pub IsPrinted : Deed → ℕ → ℤ → Type 0
IsPrinted (Switch prev prev_nice way next next_nice) pid nice =
    ((pid ≡ prev) × (nice ≡ prev_nice)) ⊎ ((pid ≡ next) × (nice ≡ next_nice))
IsPrinted (Wake task nice_of) pid nice = (pid ≡ task) × (nice ≡ nice_of)
IsPrinted (Born task nice_of policy) pid nice = (pid ≡ task) × (nice ≡ nice_of)
IsPrinted (Leave task nice_of dest) pid nice = (pid ≡ task) × (nice ≡ nice_of)
IsPrinted (Arrive task nice_of orig policy) pid nice = (pid ≡ task) × (nice ≡ nice_of)

-- the prio that a nice value is printed as
abbrev pub prio_of : ℤ → ℤ
prio_of nice = pos 120 +ℤ nice

-- the printed prio of a task, and its own
abbrev pub IsBesidePrio : Part → Deed → ℕ → ℤ → ℤ → Type 0
IsBesidePrio found deed pid value limit =
    ((nice : ℤ) × IsPrinted deed pid nice × (value ≡ prio_of nice))
    × ((s : Entity) × (found.tasks pid ≡ Some s) × (limit ≡ prio_of s.nice))

-- the task of a deed; of a switch the previous one
abbrev pub subject_of : Deed → ℕ
subject_of (Switch prev prev_nice way next next_nice) = prev
subject_of (Wake task nice) = task
subject_of (Born task nice policy) = task
subject_of (Leave task nice dest) = task
subject_of (Arrive task nice orig policy) = task

-- a claimed virtual runtime beside bounds that a task's own and the floor give
abbrev pub IsBesideClaim : Part → Option Claim → ℕ → (Entity → ℤ) → (Entity → ℤ) → ℤ → ℤ → Type 0
IsBesideClaim found claim pid least greatest value limit =
    (c : Claim) × (claim ≡ Some c) × (value ≡ c.v)
    × ((s : Entity) × (found.tasks pid ≡ Some s) × IsBesideBounds value (least s) (greatest s) limit)

-- a new task's beside the floor, and the floor and the debit
abbrev pub IsBesideFork : ℕ → Part → Option Claim → ℤ → ℤ → Type 0
IsBesideFork debit found claim value limit =
    (c : Claim) × (claim ≡ Some c) × (value ≡ c.v)
    × IsBesideBounds value found.floor (found.floor +ℤ pos debit) limit

-- how many wait beside a switch to the idle task, and that none may
abbrev pub IsBesideNobody : Part → Deed → ℤ → ℤ → Type 0
IsBesideNobody found (Switch prev prev_nice way next next_nice) value limit =
    (limit ≡ pos 0)
    × ((waiting : BTreeSet WaitingTask) × IsWaitingSet (part_after_prev found prev way).tasks waiting
    × (value ≡ pos (btree_set_len waiting)))
IsBesideNobody found deed value limit = ⊥

-- how far the next task is above the least who waits, a previous task that stays among them, and the granularity
abbrev pub IsBesideLead : ℕ → Part → Deed → ℤ → ℤ → Type 0
IsBesideLead granularity found (Switch prev prev_nice way next next_nice) value limit =
    (limit ≡ pos granularity)
    × ((s : Entity) × (least : ℤ) × (found.tasks next ≡ Some s)
    × IsLeastWaiting (part_after_prev found prev way) least × (value ≡ s.runtime -ℤ least))
IsBesideLead granularity found deed value limit = ⊥

-- of a test on the part as the event finds it
abbrev pub AreFoundNumbers : KnobsView → Part → Step → Kind → ℕ → ℤ → ℤ → Type 0
AreFoundNumbers knobs found step kind.PrevNotRunning pid value limit = IsBesideRunner found pid value limit
AreFoundNumbers knobs found step kind.WrongPrio pid value limit = IsBesidePrio found step.deed pid value limit
AreFoundNumbers knobs found step kind.ClaimPid pid value limit =
    (value ≡ pos pid) × (limit ≡ pos (subject_of step.deed))
AreFoundNumbers knobs found step kind.WrongPutBack pid value limit =
    IsBesideClaim found step.claim pid (λ s. s.runtime) (λ s. s.runtime) value limit
AreFoundNumbers knobs found step kind.WakeBounds pid value limit =
    IsBesideClaim found step.claim pid (λ s. int_max s.runtime (found.floor -ℤ pos knobs.credit))
    (λ s. int_max s.runtime found.floor) value limit
AreFoundNumbers knobs found step kind.ForkBounds pid value limit =
    IsBesideFork knobs.debit found step.claim value limit
AreFoundNumbers knobs found step kind.IdleBesideWaiting pid value limit = IsBesideNobody found step.deed value limit
AreFoundNumbers knobs found step kind.NotLeast pid value limit =
    IsBesideLead knobs.granularity found step.deed value limit
AreFoundNumbers knobs found step _ pid value limit = ⊥

-- for how long a processor has idled at the event on a line, in nanoseconds, and the slack
abbrev pub AreIdlingNumbers : KnobsView → RecordView → ℕ → ℕ → ℤ → ℤ → Type 0
AreIdlingNumbers knobs r cpu line value limit =
    (part : Part) × (since index : ℕ) × (entry : Entry) × IsBefore knobs r cpu line part (Some since)
    × (slice_get r.events index ≡ Some entry) × (entry.line ≡ line)
    × (value ≡ pos (entry.time - since)) × (limit ≡ pos knobs.slack)

-- at what a task is claimed that comes here from there, and at what by the rules: as far from the floor here as it was
-- from the floor there
abbrev pub IsBesideMoved : Part → Part → Option Claim → ℕ → ℤ → ℤ → Type 0
IsBesideMoved there here claim pid value limit =
    ((c : Claim) × (claim ≡ Some c) × (value ≡ c.v))
    × ((s : Entity) × (there.tasks pid ≡ Some s) × (limit ≡ (s.runtime -ℤ there.floor) +ℤ here.floor))

-- the same of a migration to a processor on a line
pub record AreMovedNumbers (knobs : KnobsView) (r : RecordView) (cpu line pid : ℕ) (value limit : ℤ) : Type 0 where
  pub orig : ℕ
  pub there : Part
  pub here : Part
  pub left : Step
  pub came : Step
  pub nice : ℤ
  pub policy : Policy
  pub leaves : IsReady knobs r orig line there left
  pub comes : IsReady knobs r cpu line here came
  pub deed : came.deed ≡ Arrive pid nice orig policy
  pub numbers : IsBesideMoved there here came.claim pid value limit

-- of a test of the charge, on the part just before the line
abbrev pub AreChargeNumbers : KnobsView → Part → Step → Kind → ℕ → ℤ → ℤ → Type 0
AreChargeNumbers knobs part step kind.Range pid value limit = IsBesideRange part step pid value limit
AreChargeNumbers knobs part step kind.WrongCharge pid value limit = IsBesideTold knobs.drift part step value limit
AreChargeNumbers knobs part step _ pid value limit = ⊥

-- of a fault of a record at these settings
abbrev pub AreNumbers : KnobsView → RecordView → Kind → FirstFault → ℤ → ℤ → Type 0
AreNumbers knobs r kind.IdleTooLong fault value limit =
    AreIdlingNumbers knobs r fault.cpu fault.line value limit
AreNumbers knobs r kind.TicketUnequal fault value limit =
    AreMovedNumbers knobs r fault.cpu fault.line fault.pid value limit
AreNumbers knobs r kind fault value limit =
    ((part : Part) × (step : Step) × IsMoment knobs r fault.cpu fault.line part step
    × AreChargeNumbers knobs part step kind fault.pid value limit)
    ⊎ ((found : Part) × (step : Step) × IsReady knobs r fault.cpu fault.line found step
    × AreFoundNumbers knobs found step kind fault.pid value limit)
