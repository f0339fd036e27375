-- The moments that bound the states of a run (this project's profile).
use Rattle.std.specs.Prelude.{ℕ, Option, Some, None, List, [], ◌∷◌, ◌++◌, map, slice_index_or}
use Rattle.cfs_model.specs.declared.act.Entry.{Entry}
use Rattle.sched_record.specs.Record.{RecordView, record_last_time}
use Rattle.waiting_times.specs.declared.moment.Moment.{Moment}

-- the start of a recording, or its end: no line is theirs
abbrev pub edge : ℕ → Moment
edge time = record { line = None; time = time }

-- an event's
abbrev pub moment_of : Entry → Moment
moment_of entry = record { line = Some entry.line; time = entry.time }

-- the start, each event, and the end, which is at the last event's time: state number n, where 0 is that of the start,
-- lasts from moment n to moment n + 1
abbrev pub moments_of : RecordView → List Moment
moments_of r = edge r.start ∷ (map moment_of r.events ++ edge (record_last_time r) ∷ [])

-- the moment of a number
abbrev pub moment_at : List Moment → ℕ → Moment
moment_at moments n = slice_index_or moments n (edge 0)
