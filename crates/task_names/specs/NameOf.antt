-- The name of a task, by a line that says an event of a record.
use Rattle.std.specs.Prelude.{◌≡◌, ℕ, Some, List, slice_get}
use Rattle.cfs_model.specs.declared.act.Entry.{Entry}
use Rattle.sched_record.specs.Record.{RecordView}
use Rattle.task_names.specs.Names.{CallsTask}

-- a line that says an event of the record calls the task so
abbrev pub IsNameOf : RecordView → ℕ → List ℕ → Type 0
IsNameOf r pid name =
    (index : ℕ) × (entry : Entry) × (line : List ℕ) × (slice_get r.events index ≡ Some entry)
    × CallsTask line entry pid name
