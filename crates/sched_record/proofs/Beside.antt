-- The walk of what stands on lines beside events goes on: what was passed at an event lies above all later events.
use Rattle.std.proofs.Common.{◌≡◌, ℕ, ◌+◌, ◌<◌, ◌≤◌, List, length, get_or, refl, ap, arith}
use Rattle.std.specs.List.{AllPairs}
use Rattle.cfs_model.specs.declared.act.Entry.{Entry}
use Rattle.sched_record.specs.Beside.{IsIndexBeside}
use Rattle.sched_record.proofs.Walk.{passed_more}

-- the index for the next event, from lists that are the record's
pub next_index : (X : Type 0) (f : X → ℕ) (all : List X) (all_events events : List Entry) (items : List X)
    (event from index : ℕ) (entry : Entry)
    → AllPairs (λ a b. a.line < b.line) all_events → events ≡ all_events → items ≡ all → event < length all_events
    → IsIndexBeside X f all all_events event from → index ≤ length items
    → ((k : ℕ) (d : X) → from ≤ k → k < index → f (get_or items k d) < (get_or events event entry).line)
    → IsIndexBeside X f all all_events (event + 1) index
next_index X f all all_events events items event from index entry rise same_events same_items has before within below =
    let line = (get_or all_events event entry).line in
    let count = ap length same_items in
    let same_line = ap (λ (es : List Entry). (get_or es event entry).line) same_events in
    let below_line : (k : ℕ) (d : X) → from ≤ k → k < index → f (get_or all k d) < line =
    λ k d low high.
    (let same = ap (λ (xs : List X). f (get_or xs k d)) same_items in
    omega (arith, below k d low high, same, same_line)) in
    record {
      within = omega (arith, within, count);
      passed = passed_more f (λ (e : Entry). e.line) all all_events from index event line entry rise refl has
          before.passed below_line;
    }
