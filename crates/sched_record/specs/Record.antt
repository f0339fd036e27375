-- A record, as contracts see it (this project's profile).
use Rattle.std.specs.Prelude.{ℕ, ◌-◌, List, length, slice_get, Option, Result, Ok, Err}
use Rattle.std.specs.Option.{option_map_or}
use Rattle.cfs_model.specs.Limits.{no_line}
use Rattle.cfs_model.specs.declared.act.Entry.{Entry}
use Rattle.companion_file.specs.declared.companion.Companion.{Companion}
use Rattle.companion_file.specs.Seen.{companion_view}
use Rattle.sched_record.specs.declared.joining.JoinCause.{JoinCause}
use Rattle.sched_record.specs.declared.joining.JoinFault.{JoinFault}
use Rattle.sched_record.specs.declared.record.Record.{Record}
use Rattle.sched_record.specs.declared.trace.Trace.{Trace}
use Rattle.sched_record.specs.Join.{joined_record}
use Rattle.sched_record.specs.Seen.{trace_view}
pub use Rattle.sched_record.specs.Join.{RecordAnswer}
pub use Rattle.sched_record.specs.RecordView.{RecordView}
pub use Rattle.sched_record.specs.Kept.{IsRecordInOrder}

-- the record, without where it lies in memory
abbrev pub record_view : Record → RecordView
record_view r = joined_record (trace_view r.trace) (companion_view r.companion)

-- the answer of a joining: the record, or the line and the cause of a refusal
abbrev pub join_answer_view : Result Record (Trace × Companion × JoinFault) → Result RecordView (ℕ × JoinCause)
join_answer_view (Ok r) = Ok (record_view r)
join_answer_view (Err back) = Err (back.2.line, back.2.cause)

-- the last of some events
abbrev pub last_event : List Entry → Option Entry
last_event events = slice_get events (length events - 1)

-- the time of a record's last event, in nanoseconds, and the start where it has none
abbrev pub record_last_time : RecordView → ℕ
record_last_time r = option_map_or (λ event. event.time) (last_event r.events) r.start

-- the line of a record's last event, and the stand-in where it has none
abbrev pub record_last_line : RecordView → ℕ
record_last_line r = option_map_or (λ event. event.line) (last_event r.events) no_line
