-- What a stream holds beside its tasks and steps (this project's profile).
use Rattle.std.specs.Prelude.{ℕ, ◌==◌, Bool, ◌&&◌, pos, slice_index_or}
use Rattle.std.specs.Ordering.{int_eq}
use Rattle.sched_record.specs.Record.{RecordView, record_last_time, record_last_line}
use Rattle.sched_record.specs.Stream.{StreamView}

-- each is the record's for a processor
abbrev pub is_framed : RecordView → ℕ → StreamView → Bool
is_framed r cpu s =
    (s.cpu == cpu) && (int_eq s.floor (slice_index_or r.floors cpu (pos 0)) && ((s.start == r.start)
    && ((s.last_time == record_last_time r) && (s.last_line == record_last_line r))))
