-- The last index at which a key stands: one step of the search, and what it finds.
use Rattle.std.proofs.Common.{◌≡◌, ◌≢◌, ℕ, zero, suc, ◌+◌, ◌-◌, ◌≤◌, ◌<◌, ◌⊎◌, Bool, true, false, cond, eqb, min, List}
use Rattle.std.proofs.Common.{[], ◌∷◌, length, get_or, drop, Some, None, refl, sym, ap, ◌∙◌, arith, inl, inr}
use Rattle.std.proofs.lemmas.Bool.{cases_lt, ne_eqb}
use Rattle.std.proofs.lemmas.List.{drop_more, drop_all}
use Rattle.text_parts.specs.Pieces.{begins_with}
use Rattle.sched_event.specs.Reading.{last_index}

-- the key stands at the limit
pub index_found : (limit : ℕ) (key text : List ℕ) → begins_with key (drop limit text) ≡ true
    → last_index limit key text ≡ Some limit
unfolding last_index
index_found zero key text e = rw e refl
index_found (suc limit) key text e = rw e refl

-- it doesn't stand at the limit
pub index_below : (limit : ℕ) (key text : List ℕ) → begins_with key (drop limit text) ≡ false → limit ≢ 0
    → last_index limit key text ≡ last_index (limit - 1) key text
unfolding last_index
index_below zero key text e ne = absurd (ne refl)
index_below (suc limit) key text e ne = let down : suc limit - 1 ≡ limit = omega arith in rw (e, down) refl

-- it stands nowhere up to the front
pub index_none : (limit : ℕ) (key text : List ℕ) → begins_with key (drop limit text) ≡ false → limit ≡ 0
    → last_index limit key text ≡ None
unfolding last_index
index_none zero key text e z = rw e refl
index_none (suc limit) key text e z = absurd (omega arith)

-- what was found is an index up to the limit at which the key stands
pub record IsKeyAt (limit : ℕ) (key text : List ℕ) (index : ℕ) : Type 0 where
  pub within : index ≤ limit
  pub stands : begins_with key (drop index text) ≡ true

-- which way a choice went
pub chosen : {A : Type 0} (b : Bool) (x y z : A) → cond b x y ≡ z → ((b ≡ true) × (x ≡ z)) ⊎ ((b ≡ false) × (y ≡ z))
chosen true x y z e = inl (refl, e)
chosen false x y z e = inr (refl, e)

pub index_stands : (limit : ℕ) (key text : List ℕ) (index : ℕ) → last_index limit key text ≡ Some index
    → IsKeyAt limit key text index
unfolding last_index
index_stands zero key text index e =
    elim (chosen (begins_with key text) (Some 0) None (Some index) e) [
      | inl found ↦ let z : 0 ≡ index = cc in record { within = omega arith; stands = rw (← z) found.0 }
      | inr none ↦ absurd cc
    ]
index_stands (suc limit) key text index e =
    elim (chosen (begins_with key (drop (suc limit) text)) (Some (suc limit)) (last_index limit key text) (Some index)
    e) [
      | inl found ↦ let z : suc limit ≡ index = cc in record { within = omega arith; stands = rw (← z) found.0 }
      | inr on ↦ let below = index_stands limit key text index on.1 in
          record { within = omega (arith, below.within); stands = below.stands }
    ]

-- a key that stands at an index, and at no later one up to the limit, was found there
pub index_is_last : (limit : ℕ) (key text : List ℕ) (index : ℕ) → index ≤ limit
    → begins_with key (drop index text) ≡ true
    → ((later : ℕ) → index < later → later ≤ limit → begins_with key (drop later text) ≡ false)
    → last_index limit key text ≡ Some index
unfolding last_index
index_is_last zero key text index le stands none = let z : index ≡ 0 = omega arith in
    index_found 0 key text (rw z at stands) ∙ ap Some (sym z)
index_is_last (suc limit) key text index le stands none =
    elim (cases_lt index (suc limit)) [
      | inl lt ↦ rw (none (suc limit) lt (omega arith))
          (index_is_last limit key text index (omega arith) stands
          (λ later above below. none later above (omega arith)))
      | inr ge ↦ let z : index ≡ suc limit = omega arith in
          index_found (suc limit) key text (rw z at stands) ∙ ap Some (sym z)
    ]

-- ---- a key stands only where its first byte does

-- it doesn't stand where another byte does
pub first_differs : (key text : List ℕ) (index : ℕ) → 0 < length key → index < length text
    → get_or text index 0 ≢ get_or key 0 0 → begins_with key (drop index text) ≡ false
first_differs [] text index some within differs = absurd (omega arith)
first_differs (byte ∷ key) text index some within differs =
    let here : drop index text ≡ get_or text index 0 ∷ drop (index + 1) text = drop_more text index 0 within in
    let other : eqb (get_or text index 0) byte ≡ false = ne_eqb (get_or text index 0) byte differs in
    rw (here, other) refl

-- nor in an empty text
pub none_in_empty : (key : List ℕ) → 0 < length key → begins_with key [] ≡ false
none_in_empty [] some = absurd (omega arith)
none_in_empty (byte ∷ key) some = refl

-- indices with another byte are passed over
pub passed_over : (limit index : ℕ) (key text : List ℕ) → index ≤ limit → limit < length text → 0 < length key
    → ((later : ℕ) → index < later → later ≤ limit → get_or text later 0 ≢ get_or key 0 0)
    → last_index limit key text ≡ last_index index key text
passed_over zero index key text le within some other = let z : 0 ≡ index = omega arith in rw z refl
passed_over (suc limit) index key text le within some other =
    elim (cases_lt index (suc limit)) [
      | inl lt ↦
          let down : suc limit - 1 ≡ limit = omega arith in
          index_below (suc limit) key text (first_differs key text (suc limit) some within
          (other (suc limit) lt (omega arith))) (λ z. absurd (omega arith))
          ∙ rw down (passed_over limit index key text (omega arith) (omega arith) some
          (λ later above below. other later above (omega arith)))
      | inr ge ↦ let z : suc limit ≡ index = omega arith in rw z refl
    ]

-- the key doesn't stand behind the last byte
pub from_last : (key text : List ℕ) → 0 < length key → 0 < length text
    → last_index (min 15 (length text)) key text ≡ last_index (min 15 (length text - 1)) key text
from_last key text some long =
    elim (cases_lt 15 (length text)) [
      | inl lt ↦ let same : min 15 (length text) ≡ min 15 (length text - 1) = omega arith in rw same refl
      | inr ge ↦
          let all : min 15 (length text) ≡ length text = omega arith in
          let but_one : min 15 (length text - 1) ≡ length text - 1 = omega arith in
          let nothing : begins_with key (drop (length text) text) ≡ false =
          rw (drop_all (length text) text (omega arith)) (none_in_empty key some) in
          rw (all, but_one) (index_below (length text) key text nothing (λ z. absurd (omega arith)))
    ]
