-- Events that are counted by what they do.
use Rattle.std.proofs.Common.{◌≡◌, ℕ, ◌+◌, ◌<◌, ◌≤◌, Bool, cond, List, [], ◌∷◌, length, map, take, get_or, refl, sym}
use Rattle.std.proofs.Common.{ap}
use Rattle.std.proofs.Common.{◌∙◌, arith}
use Rattle.std.specs.List.{count_by}
use Rattle.std.proofs.lemmas.List.{length-take-le}
use Rattle.std.proofs.lemmas.List.Sums.{count_by-le-length, sum_by-cons, sum_by_more}
use Rattle.cfs_model.specs.Claimed.{Claimed}
use Rattle.cfs_model.specs.declared.act.Act.{Act}
use Rattle.cfs_model.specs.declared.act.Entry.{Entry}
use Rattle.replay_model.specs.Summary.{how_many, is_birth, is_death, is_migration, is_switch}
use Rattle.ticket_book.specs.EventCounts.{AreCountsBelow, counts_of, with_event}
use Rattle.ticket_book.specs.declared.event_counts.EventCounts.{EventCounts}

same_counts : (a b : EventCounts) → a.switches ≡ b.switches → a.migrations ≡ b.migrations → a.births ≡ b.births
    → a.deaths ≡ b.deaths
    → a ≡ b
same_counts a b switches migrations births deaths =
    λ i. record { switches = switches i; migrations = migrations i; births = births i; deaths = deaths i }

-- one event more
pub count_more : (events : List Entry) (i : ℕ) (event : Entry) → i < length events → event ≡ get_or events i event
    → with_event event (counts_of (take i events)) ≡ counts_of (take (i + 1) events)
count_more events i event within is =
    same_counts (with_event event (counts_of (take i events))) (counts_of (take (i + 1) events))
    (more is_switch) (more is_migration) (more is_birth) (more is_death)
  where
    more : (does : Act → Bool)
        → count_by (λ (e : Entry). does e.act) (take i events) + cond (does event.act) 1 0
        ≡ count_by (λ (e : Entry). does e.act) (take (i + 1) events)
    more does =
        ap (λ (e : Entry). count_by (λ (f : Entry). does f.act) (take i events) + cond (does e.act) 1 0) is
        ∙ sym (sum_by_more (λ (e : Entry). cond (does e.act) 1 0) events i event within)

-- no count is above the number of events
pub counts_below : (events : List Entry) (i bound : ℕ) → i < length events → length events ≤ bound
    → AreCountsBelow bound (counts_of (take i events))
counts_below events i bound within most = record {
  switches = below is_switch;
  migrations = below is_migration;
  births = below is_birth;
  deaths = below is_death;
}
  where
    below : (does : Act → Bool) → count_by (λ (e : Entry). does e.act) (take i events) < bound
    below does =
        let few = count_by-le-length (λ (e : Entry). does e.act) (take i events) in
        let n = length-take-le i events (omega arith) in
        omega (arith, few, n, within, most)

-- the counts among events with what is said on their lines
pub count_said : (does : Act → Bool) (said : List Claimed)
    → count_by (λ (e : Entry). does e.act) (map (λ event. event.entry) said) ≡ how_many does said
count_said does [] = refl
count_said does (event ∷ said) =
    sum_by-cons (λ (e : Entry). cond (does e.act) 1 0) event.entry (map (λ (s : Claimed). s.entry) said)
    ∙ ap (λ n. cond (does event.entry.act) 1 0 + n) (count_said does said)
    ∙ sym (sum_by-cons (λ (s : Claimed). cond (does s.entry.act) 1 0) event said)
