-- A record's events (this project's profile).
use Rattle.std.specs.Prelude.{List}
use Rattle.cfs_model.specs.Claimed.{Claimed, claimed}
use Rattle.sched_record.specs.RecordView.{RecordView, policy_of}

-- each with what the companion says on its line, and with the policy of the task that it bears or moves
abbrev pub events_of : RecordView → List Claimed
events_of r = claimed r.claims r.nices r.charges (policy_of r) r.events
