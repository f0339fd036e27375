-- The events that came so far are those of a record: what is tested of the whole at the end isn't asked for.
use Rattle.std.proofs.Common.{◌≡◌, ℕ, zero, suc, ◌<◌, ◌≤◌, List, [], ◌∷◌, length, get_or, All, arith}
use Rattle.std.specs.List.{AllByRecursion, AllPairs}
use Rattle.std.proofs.lemmas.List.{length-map}
use Rattle.cfs_model.specs.Claimed.{Claimed, claimed, with_claim}
use Rattle.cfs_model.specs.declared.act.Entry.{Entry}
use Rattle.replay_model.proofs.RecordFrom.{record_from}
use Rattle.replay_model.proofs.StartFrom.{start_from}
use Rattle.sched_record.specs.Join.{BeginsInTime}
use Rattle.sched_record.specs.Kept.{AreInOrder}
use Rattle.sched_record.specs.RecordView.{RecordView, policy_of}
use Rattle.stream_laws.specs.SoFar.{EventsAreFew, RecordSoFar, TimesStayBelow, events_so_far}

-- none is before the start, where the first isn't and the times never fall
pub all_started : (start : ℕ) (events : List Entry) → BeginsInTime start events
    → AllPairs (λ a b. a.time ≤ b.time) events → All (λ (event : Entry). start ≤ event.time) events
all_started start [] begins rise k d h = absurd (omega arith)
all_started start (event ∷ events) begins rise zero d h = begins
all_started start (event ∷ events) begins rise (suc k) d h =
    let up = rise 0 (suc k) d (omega arith) h in
    let first : start ≤ event.time = begins in
    omega (arith, up, first)

-- both are in order, and no event is outside or too early
pub record_so_far : RecordSoFar
record_so_far r c events inside begins =
    let start = start_from r.floors r.tasks c.pids_rise c.one_runs_a_cpu
    (λ k d h. (c.tasks_in_limits k d h).v) c.floors_in_limits in
    record_from r.start r.floors r.tasks r.claims r.nices r.charges (policy_of r) r.events r.cpus start
    (λ k d h. (c.tasks_in_limits k d h).cpu) inside (λ k d h. (c.claims_in_limits k d h).v)
    (λ k d h. (c.charges_in_limits k d h).v)
    events.never_falls (all_started r.start r.events begins events.never_falls) events.lines_rise events.from_one

-- lines that rise from one on count the events at least
counted : (events : List Entry) → All (λ (event : Entry). 0 < event.line) events
    → AllPairs (λ (a : Entry) (b : Entry). a.line < b.line) events
    → (k : ℕ) (d : Entry) → k < length events → k < (get_or events k d).line
counted events first rise zero d h = first zero d h
counted events first rise (suc k) d h =
    let before = counted events first rise k d (omega arith) in
    let up = rise k (suc k) d (omega arith) h in
    omega (arith, before, up)

pub few_events : (events : List Entry) (most : ℕ) → AreInOrder events
    → All (λ (event : Entry). event.line ≤ most) events → length events ≤ most
few_events [] most o within = omega arith
few_events (event ∷ events) most o within =
    let last = length events in
    let count = counted (event ∷ events) o.from_one o.lines_rise last event (omega arith) in
    let below = within last event (omega arith) in
    omega (arith, count, below)

pub same_count : (r : RecordView) → length (events_so_far r) ≡ length r.events
same_count r = length-map r.events (with_claim r.claims r.nices r.charges (policy_of r))

pub events_are_few : EventsAreFew
events_are_few r most o within =
    let n = same_count r in let m = few_events r.events most o within in omega (arith, n, m)

times_below : (r : RecordView) (last : ℕ) (events : List Entry) → All (λ (event : Entry). event.time ≤ last) events
    → AllByRecursion (λ (event : Claimed). event.entry.time ≤ last)
    (claimed r.claims r.nices r.charges (policy_of r) events)
times_below r last [] below = tt
times_below r last (event ∷ events) below = (
  below 0 event (omega arith),
  times_below r last events (λ k d h. below (suc k) d (omega (arith, h))),
)

pub times_stay_below : TimesStayBelow
times_stay_below r last below = times_below r last r.events below
