-- What holds of the events that came so far, before the texts are whole (this project's profile): a record is meant as
-- it is known so far, with all claims, changes of nice values and charges that were said.
use Rattle.std.specs.Prelude.{ℕ, ◌≤◌, List, All, length}
use Rattle.std.specs.List.{AllByRecursion}
use Rattle.cfs_model.specs.Claimed.{Claimed, claimed}
use Rattle.cfs_model.specs.declared.act.Entry.{Entry}
use Rattle.companion_file.specs.Order.{IsCompanionInOrder}
use Rattle.replay_model.specs.Record.{IsRecord}
use Rattle.sched_record.specs.Join.{BeginsInTime, IsInside}
use Rattle.sched_record.specs.Kept.{AreInOrder, companion_part}
use Rattle.sched_record.specs.RecordView.{RecordView, policy_of}

-- the events so far with what is said on their lines
abbrev pub events_so_far : RecordView → List Claimed
events_so_far r = claimed r.claims r.nices r.charges (policy_of r) r.events

-- where both texts are in order so far, no event is outside and the first isn't too early, the events are those of a
-- record: that each claim has its event isn't asked for
abbrev pub RecordSoFar : Type 0
RecordSoFar = (r : RecordView) → IsCompanionInOrder (companion_part r) → AreInOrder r.events
    → All (IsInside r.cpus) r.events → BeginsInTime r.start r.events
    → IsRecord r.start r.floors r.tasks (events_so_far r) r.cpus

-- there are no more events than lines up to the last of them
abbrev pub EventsAreFew : Type 0
EventsAreFew = (r : RecordView) (most : ℕ) → AreInOrder r.events
    → All (λ (event : Entry). event.line ≤ most) r.events → length (events_so_far r) ≤ most

-- and none is later than what none of the trace's is later than
abbrev pub TimesStayBelow : Type 0
TimesStayBelow = (r : RecordView) (last : ℕ) → All (λ (event : Entry). event.time ≤ last) r.events
    → AllByRecursion (λ (event : Claimed). event.entry.time ≤ last) (events_so_far r)
