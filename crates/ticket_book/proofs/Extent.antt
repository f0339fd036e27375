-- How many events a record can have and how late they are, so that no sum over them is too great.
use Rattle.std.proofs.Common.{◌≡◌, ℕ, zero, suc, ◌+◌, ◌*◌, ◌-◌, ◌^◌, ◌<◌, ◌≤◌, List, [], ◌∷◌, length, get_or, All}
use Rattle.std.proofs.Common.{inl}
use Rattle.std.proofs.Common.{inr, ap, arith}
use Rattle.std.specs.List.{AllByRecursion, AllPairs}
use Rattle.std.specs.Option.{option_map_or}
use Rattle.std.proofs.Math.Nat.{mul-le-mul}
use Rattle.std.proofs.lemmas.Bool.{cases_lt}
use Rattle.std.proofs.lemmas.Option.{slice_get-get_or}
use Rattle.cfs_model.specs.Claimed.{claimed}
use Rattle.cfs_model.specs.Limits.{greatest_runtime, greatest_setting, no_line}
use Rattle.cfs_model.specs.declared.act.Entry.{Entry}
use Rattle.cfs_model.specs.declared.claim.Claim.{Claim}
use Rattle.cfs_model.specs.declared.charge_line.ChargeLine.{ChargeLine}
use Rattle.cfs_model.specs.declared.nice_line.NiceLine.{NiceLine}
use Rattle.replay_model.specs.declared.page.Tally.{Tally}
use Rattle.sched_record.specs.Record.{last_event}
use Rattle.ticket_book.specs.Tallying.{FitsTally}
use Rattle.cfs_model.specs.declared.policy.Policy.{Policy}

-- what never falls along the events is greatest at the last
pub last_greatest : (amount : Entry → ℕ) (events : List Entry) (none : ℕ) → AllPairs (λ a b. amount a ≤ amount b) events
    → (k : ℕ) (d : Entry) → k < length events
    → amount (get_or events k d) ≤ option_map_or amount (last_event events) none
last_greatest amount events none rise k d h =
    let last : option_map_or amount (last_event events) none ≡ amount (get_or events (length events - 1) d) =
    ap (λ found. option_map_or amount found none) (slice_get-get_or events (length events - 1) d (omega arith)) in
    elim (cases_lt k (length events - 1)) [
      | inl before ↦ let le = rise k (length events - 1) d before (omega arith) in omega (arith, last, le)
      | inr there ↦
          let same : k ≡ length events - 1 = omega arith in
          let here = ap (λ n. amount (get_or events n d)) same in
          omega (arith, last, here)
    ]

-- lines that rise from one on count the events at least
counted_by : (events : List Entry) → All (λ event. 0 < event.line) events → AllPairs (λ a b. a.line < b.line) events
    → (k : ℕ) (d : Entry) → k < length events → k < (get_or events k d).line
counted_by events first rise zero d h = first zero d h
counted_by events first rise (suc k) d h =
    let before = counted_by events first rise k d (omega arith) in
    let up = rise k (suc k) d (omega arith) h in
    omega (arith, before, up)

pub events_few : (events : List Entry) → All (λ event. 0 < event.line) events → AllPairs (λ a b. a.line < b.line) events
    → length events ≤ option_map_or (λ event. event.line) (last_event events) no_line
events_few [] first rise = omega arith
events_few (event ∷ events) first rise =
    let last : option_map_or (λ (e : Entry). e.line) (last_event (event ∷ events)) no_line
    ≡ (get_or (event ∷ events) (length (event ∷ events) - 1) event).line =
    ap (λ found. option_map_or (λ (e : Entry). e.line) found no_line)
    (slice_get-get_or (event ∷ events) (length (event ∷ events) - 1) event (omega arith)) in
    let count = counted_by (event ∷ events) first rise (length (event ∷ events) - 1) event (omega arith) in
    omega (arith, last, count)

-- the same of events with what is said on their lines
pub times_below : (claims : List Claim) (nices : List NiceLine) (charges : List ChargeLine) (policy : Entry
    → Policy) (events : List Entry) (last : ℕ)
    → All (λ event. event.time ≤ last) events
    → AllByRecursion (λ event. event.entry.time ≤ last) (claimed claims nices charges policy events)
times_below claims nices charges policy [] last below = tt
times_below claims nices charges policy (event ∷ events) last below = (
  below 0 event (omega arith),
  times_below claims nices charges policy events last (λ k d h. below (suc k) d
      (omega arith)),
)

-- what so many events by so late a time allow fits
pub bounds_fit : (tally : Tally) (events last drift : ℕ) → events < 2 ^ 32 → last < 2 ^ 64
    → drift ≤ greatest_setting
    → (tally.ran ≤ events * (2 * last)) × (tally.charged ≤ events * (2 * (greatest_runtime + 2 * drift)))
    × (tally.picks ≤ events)
    → FitsTally tally
bounds_fit tally events last drift few early within bounds =
    let few_events : events ≤ 2 ^ 32 = omega arith in
    let early_last : 2 * last ≤ 2 ^ 65 = omega arith in
    let ran : events * (2 * last) ≤ 2 ^ 32 * 2 ^ 65 = mul-le-mul few_events early_last in
    let cheap : 2 * (greatest_runtime + 2 * drift) ≤ 2 ^ 65 = omega arith in
    let charged : events * (2 * (greatest_runtime + 2 * drift)) ≤ 2 ^ 32 * 2 ^ 65 = mul-le-mul few_events cheap in
    record {
      ran = (let b = bounds.0 in omega (arith, ran, b));
      charged = (let b = bounds.1 in omega (arith, charged, b));
      picks = (let b = bounds.2 in omega (arith, b, few));
    }
