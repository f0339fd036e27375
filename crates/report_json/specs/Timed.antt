-- What is judged of a record, with the time of its fault, the two numbers that its rule compares and the name of its
-- task (this project's format).
use Rattle.std.specs.Prelude.{◌≡◌, ℕ, Bool, List, Option, Some, ⊤}
use Rattle.cfs_model.specs.Knobs.{KnobsView}
use Rattle.fault_bounds.specs.Bounds.{AreNumbers}
use Rattle.fault_bounds.specs.declared.bound.Bound.{Bound}
use Rattle.replay_model.specs.declared.first_fault.FirstFault.{FirstFault}
use Rattle.report_json.specs.Objects.{fault_time, told_object}
use Rattle.report_json.specs.declared.name.NameTold.{NameTold}
use Rattle.report_json.specs.declared.name.NameTold.TheVariants.{Untold, Told}
use Rattle.report_json.specs.declared.as_json.AsJson.{AsJson}
use Rattle.sched_record.specs.Record.{RecordView}
use Rattle.task_names.specs.NameOf.{IsNameOf}

-- the numbers are those of the fault at these settings, where some are told
abbrev pub HasBound : KnobsView → RecordView → Option FirstFault → Option Bound → Type 0
HasBound knobs r (Some fault) (Some bound) = AreNumbers knobs r fault.kind fault bound.value bound.limit
HasBound knobs r _ _ = ⊤

-- the name is that of the fault's task by a line that says an event of the record, where one is told
abbrev pub HasName : RecordView → Option FirstFault → NameTold → Type 0
HasName r (Some fault) (Told (Some name)) = IsNameOf r fault.pid name.items
HasName r _ _ = ⊤

-- it is that of the record, the time is that of the event on the line of the fault that it names, and the numbers are
-- the fault's at these settings
abbrev pub is_timed : {J : Type 0} → KnobsView → (J → Option FirstFault) → (RecordView → J → Type 0) → RecordView
    → AsJson J → Type 0
is_timed knobs fault_of is_of r told =
    is_of r told.judged × (told.time ≡ fault_time r (fault_of told.judged))
    × HasBound knobs r (fault_of told.judged) told.bound

-- the same, with the name of the fault's task
abbrev pub is_timed_named : {J : Type 0} → KnobsView → (J → Option FirstFault) → (RecordView → J → Type 0) → RecordView
    → AsJson J → Type 0
is_timed_named knobs fault_of is_of r told =
    is_timed knobs fault_of is_of r told × HasName r (fault_of told.judged) told.name

-- the same, and nothing is said of the name
abbrev pub is_timed_alone : {J : Type 0} → KnobsView → (J → Option FirstFault) → (RecordView → J → Type 0) → RecordView
    → AsJson J → Type 0
is_timed_alone knobs fault_of is_of r told = is_timed knobs fault_of is_of r told × (told.name ≡ Untold)

-- its report: the fault with its task's name and its numbers, or the members that are told where none is named
abbrev pub object_by : {J : Type 0} → (J → Option FirstFault) → (Bool → J → List ℕ) → Bool → AsJson J → List ℕ
object_by fault_of members tells_charges told =
    told_object (fault_of told.judged) told.time told.name told.bound (members tells_charges told.judged)

-- the fault that it names
abbrev pub timed_fault : {J : Type 0} → (J → Option FirstFault) → AsJson J → Option FirstFault
timed_fault fault_of told = fault_of told.judged
