-- What a processor sees of a record (this project's profile).
use Rattle.std.specs.Prelude.{ℕ}
use Rattle.cfs_model.specs.Claimed.{claimed}
use Rattle.replay_model.specs.Cut.{cut}
pub use Rattle.replay_model.specs.Cut.{StreamView}
pub use Rattle.processor_stream.specs.StreamKept.{IsStream}
pub use Rattle.processor_stream.specs.Stream.{stream_view}
use Rattle.sched_record.specs.RecordView.{RecordView, policy_of}

-- the record's cut for a processor
abbrev pub cut_of : RecordView → ℕ → StreamView
cut_of r cpu = cut r.start r.floors r.tasks (claimed r.claims r.nices r.charges (policy_of r) r.events) cpu
