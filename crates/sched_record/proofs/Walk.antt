-- What the companion says on lines and events walked side by side: the index in the events never goes back, since
-- every event before it stands on a line above that of the item in hand, and so above those of all later items.
use Rattle.std.proofs.Common.{◌≡◌, ℕ, ◌+◌, ◌<◌, ◌≤◌, ◌≢◌, List, length, get_or, eqb, IsTrue, inl, inr, ◌⊎◌, ap, ◌∙◌}
use Rattle.std.proofs.Common.{arith, subst}
use Rattle.std.specs.List.{AllPairs}
use Rattle.std.proofs.lemmas.Bool.{both_ways, ne_eqb, eq-eqb, cases_lt, cases_order}
use Rattle.std.proofs.lemmas.List.{get_or_default}
use Rattle.std.proofs.lemmas.List.Folds.{list_any_none, list_any_at}
use Rattle.cfs_model.specs.declared.act.Entry.{Entry}
use Rattle.sched_record.specs.Join.{is_event_line}

-- everything before the index lies above this line
abbrev pub AllAbove : {X : Type 0} → (X → ℕ) → List X → ℕ → ℕ → Type 0
AllAbove {X} f xs to_index line = (k : ℕ) (d : X) → k < to_index → f (get_or xs k d) < line

-- what is at the index, if there is something, lies below this line
abbrev pub IsBelowAt : {X : Type 0} → (X → ℕ) → List X → ℕ → ℕ → Type 0
IsBelowAt {X} f xs to_index line = (d : X) → to_index < length xs → line < f (get_or xs to_index d)

-- so nothing lies on the line
pub apart_from : {X : Type 0} (f : X → ℕ) (xs : List X) (line to_index : ℕ) → AllPairs (λ a b. f a < f b) xs
    → AllAbove f xs to_index line → IsBelowAt f xs to_index line → (k : ℕ) (d : X) → k < length xs
    → f (get_or xs k d) ≡ line
    → ⊥
apart_from {X} f xs line to_index rising above below k d h same = apart (cases_order k to_index)
  where
    apart : (k ≡ to_index) ⊎ ((k < to_index) ⊎ (to_index < k)) → ⊥
    apart (inl here) =
        let at : line < f (get_or xs to_index d) = below d (omega arith) in
        let moved = ap (λ n. f (get_or xs n d)) here in
        absurd (omega (arith, at, moved, same))
    apart (inr (inl before)) = let at = above k d before in absurd (omega (arith, at, same))
    apart (inr (inr behind)) =
        let at : line < f (get_or xs to_index d) = below d (omega arith) in
        let later = rising to_index k d behind h in
        absurd (omega (arith, at, later, same))

-- no event stands on the line
pub no_event_line : (events : List Entry) (line to_index : ℕ) → AllPairs (λ a b. a.line < b.line) events
    → AllAbove (λ event. event.line) events to_index line → IsBelowAt (λ event. event.line) events to_index line
    → IsTrue (is_event_line events line) → ⊥
no_event_line events line to_index rising above below is_line =
    let apart = apart_from (λ (event : Entry). event.line) events line to_index rising above below in
    both_ways _ (list_any_none _ events (λ k d h. ne_eqb _ _ (apart k d h))) is_line

-- where the index is behind the last
pub below_end : {X : Type 0} (f : X → ℕ) (xs : List X) (line to_index : ℕ) → length xs ≤ to_index
    → IsBelowAt f xs to_index line
below_end f xs line to_index end d h = absurd (omega arith)

-- where what is at the index isn't above the line, and not on it
pub below_other : {X : Type 0} (f : X → ℕ) (xs : List X) (line to_index : ℕ) (d' : X)
    → ((d : X) → to_index < length xs → line ≤ f (get_or xs to_index d))
    → (f (get_or xs to_index d') ≡ line → ⊥) → IsBelowAt f xs to_index line
below_other f xs line to_index d' reached other d h =
    let low = reached d h in
    let same = ap f (get_or_default xs to_index d d' h) in
    let ne : f (get_or xs to_index d) ≢ line = λ e. other (omega (arith, e, same)) in
    omega (arith, low, ne)

-- of two lists that are walked side by side, what is passed in the first lies above all that is left of the second
abbrev pub HasPassed : {X Y : Type 0} → (X → ℕ) → (Y → ℕ) → List X → List Y → ℕ → ℕ → Type 0
HasPassed {X} {Y} f g xs ys to_index index = (k j : ℕ) (d : X) (e : Y) → k < to_index → index ≤ j → j < length ys
    → f (get_or xs k d) < g (get_or ys j e)

-- so everything before the new index lies above what is in hand
pub above_here : {X Y : Type 0} (f : X → ℕ) (g : Y → ℕ) (xs : List X) (ys : List Y) (from to_index index line : ℕ)
    (e' : Y)
    → line ≡ g (get_or ys index e') → index < length ys → HasPassed f g xs ys from index
    → ((k : ℕ) (d : X) → from ≤ k → k < to_index → f (get_or xs k d) < line) → (k : ℕ) (d : X) → k < to_index
    → f (get_or xs k d) < line
above_here f g xs ys from to_index index line e' is_line has passed below k d h =
    elim (cases_lt k from) [
      | inl lt ↦ (let before = passed k index d e' lt (omega arith) has in omega (arith, before, is_line))
      | inr ge ↦ below k d ge h
    ]

-- and above what comes later
pub passed_more : {X Y : Type 0} (f : X → ℕ) (g : Y
    → ℕ) (xs : List X) (ys : List Y) (from to_index index line : ℕ) (e' : Y)
    → AllPairs (λ a b. g a < g b) ys → line ≡ g (get_or ys index e') → index < length ys
    → HasPassed f g xs ys from index
    → ((k : ℕ) (d : X) → from ≤ k → k < to_index → f (get_or xs k d) < line) → HasPassed f g xs ys to_index (index + 1)
passed_more f g xs ys from to_index index line e' rising is_line has passed below k j d e h later h' =
    elim (cases_lt k from) [
      | inl lt ↦ passed k j d e lt (omega arith) h'
      | inr ge ↦ (
          let here = below k d ge h in
          let more = rising index j e (omega arith) h' in
          let same = ap g (get_or_default ys index e e' has) in
          omega (arith, here, more, same, is_line))
    ]

-- an event stands on the line, where the one at the index does
pub event_line_at : (events : List Entry) (line to_index : ℕ) (d : Entry) → to_index < length events
    → (get_or events to_index d).line ≡ line
    → IsTrue (is_event_line events line)
event_line_at events line to_index d h same = list_any_at (λ (event : Entry). eqb event.line line) events to_index d h
    (eq-eqb _ _ same)

-- the items before an index stand on events' lines
abbrev pub AreOnEvents : {X : Type 0} → (X → ℕ) → List Entry → List X → ℕ → Type 0
AreOnEvents {X} f events items index = (k : ℕ) (d : X) → k < index
    → IsTrue (is_event_line events (f (get_or items k d)))

-- one more does
pub on_events_more : {X : Type 0} (f : X → ℕ) (events : List Entry) (items : List X) (index : ℕ) (item : X)
    → index < length items
    → item ≡ get_or items index item → AreOnEvents f events items index → IsTrue (is_event_line events (f item))
    → AreOnEvents f events items (index + 1)
on_events_more {X} f events items index item h is before here k d lt =
    elim (cases_lt k index) [
      | inl less ↦ before k d less
      | inr ge ↦ (
          let last : index ≡ k = omega arith in
          let same : item ≡ get_or items k d = is ∙ get_or_default items index item d h
          ∙ ap (λ n. get_or items n d) last in
          subst (λ (x : X). IsTrue (is_event_line events (f x))) same here)
    ]

-- those above the item in hand do
pub on_events_above : {X : Type 0} (f : X → ℕ) (events : List Entry) (items : List X) (index : ℕ) (item : X)
    → AllPairs (λ a b. f a < f b) items
    → index < length items → item ≡ get_or items index item → AreOnEvents f events items index
    → (k : ℕ) (d : X) → k < length items → f (get_or items k d) < f item
    → IsTrue (is_event_line events (f (get_or items k d)))
on_events_above {X} f events items index item rise h is before k d has less =
    let here = ap f is in
    elim (cases_order k index) [
      | inl same ↦ (
          let at = ap f (ap (λ n. get_or items n d) same ∙ get_or_default items index d item h) in
          absurd (omega (arith, here, at, less)))
      | inr apart ↦ elim apart [
        | inl ahead ↦ before k d ahead
        | inr behind ↦ (
            let at = rise index k d behind has in
            let default = ap f (get_or_default items index d item h) in
            absurd (omega (arith, here, at, default, less)))
      ]
    ]
