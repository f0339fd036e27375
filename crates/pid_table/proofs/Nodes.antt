-- What a new node does to its level.
use Rattle.std.proofs.Common.{◌≡◌, ◌≢◌, ◌∙◌, refl, sym, ap, subst, ℕ, ◌+◌, ◌*◌, ◌<◌, ◌≤◌, ◌==◌, ◌++◌, ◌-◌, replicate}
use Rattle.std.proofs.Common.{arith, inl, inr, not, cond}
use Rattle.std.proofs.Common.{List, length, set, get_or}
use Rattle.std.proofs.lemmas.Bool.{cases_lt}
use Rattle.std.proofs.lemmas.Bool.Decides.{eqb_tells}
use Rattle.std.proofs.lemmas.List.{get_or-set_same, get_or-set_other, get_or-replicate, get_or_past}
use Rattle.std.proofs.lemmas.List.{get_or_append_left, get_or-append_right, length-replicate}
use Rattle.std.proofs.lemmas.List.Sums.{sum_by-set}
use Rattle.pid_table.specs.Places.{AreNodes, pointers}

one : (node : ℕ) → 0 < node → ◌≡◌ {A = ℕ} (cond (not (node == 0)) 1 0) 1
one node some =
    elim (eqb_tells node 0) [
      | inl none ↦ absurd (omega (arith, some, none.1))
      | inr is ↦ ap (λ b. cond (not b) 1 0) is.0
    ]

-- one word more points behind the first node
one_pointer : (words : List ℕ) (index node : ℕ) → index < length words → get_or words index 0 ≡ 0 → 0 < node
    → pointers (set words index node) ≡ pointers words + 1
one_pointer words index node within none some =
    let f : ℕ → ℕ = λ word. cond (not (word == 0)) 1 0 in
    let changed = sum_by-set f words index node 0 within in
    let before : f (get_or words index 0) ≡ 0 = ap f none in
    let after : f node ≡ 1 = one node some in
    omega (arith, changed, before, after)

-- words 0 behind a list change none of it
pub padded : (words : List ℕ) (count i : ℕ) → get_or (words ++ replicate count 0) i 0 ≡ get_or words i 0
padded words count i =
    elim (cases_lt i (length words)) [
      | inl within ↦ get_or_append_left words (replicate count 0) 0 i within
      | inr past ↦
          get_or-append_right words (replicate count 0) (length words) i 0 refl past
          ∙ nothing (i - length words)
          ∙ sym (get_or_past words i 0 past)
    ]
  where
    nothing : (k : ℕ) → ◌≡◌ {A = ℕ} (get_or (replicate count 0) k 0) 0
    nothing k =
        elim (cases_lt k count) [
          | inl within ↦ get_or-replicate count k 0 0 within
          | inr past ↦ get_or_past (replicate count 0) k 0 (omega (arith, past, length-replicate {A = ℕ} count 0))
        ]

-- a word that pointed at the first node points at the one that is new
module _ (size index new : ℕ) (parents nodes grown : List ℕ) (positive : 0 < size) (there : index < length parents)
    (none : get_or parents index 0 ≡ 0) (first : size ≤ length nodes) (before : AreNodes size parents nodes)
    (kept : (i : ℕ) → get_or grown i 0 ≡ get_or nodes i 0) (more : length grown ≡ length nodes + size)
    (last : new ≡ length nodes) where
  abbrev linked : List ℕ
  linked = set parents index new

  behind : (i : ℕ) → get_or linked i 0 ≢ 0 → (size ≤ get_or linked i 0) × (get_or linked i 0 + size ≤ length grown)
  behind i some =
      elim (eqb_tells i index) [
        | inl here ↦
            let is : get_or linked i 0 ≡ new =
            ap (λ k. get_or linked k 0) here.1 ∙ get_or-set_same parents index new 0 there in
            (omega (arith, is, last, first), omega (arith, is, last, more))
        | inr elsewhere ↦
            let is : get_or linked i 0 ≡ get_or parents i 0 =
            get_or-set_other parents index i new 0 elsewhere.1 in
            let old = before.within i (λ e. some (is ∙ e)) in
            (omega (arith, is, old.0), omega (arith, is, old.1, more))
      ]

  pub new_node : AreNodes size linked grown
  new_node = record {
    empty = λ i low. kept i ∙ before.empty i low;
    within = behind;
    few =
        let count = one_pointer parents index new there none (omega (arith, last, positive, first)) in
        subst (λ n. length grown ≤ size + n * size) (sym count) (omega (arith, before.few, more));
  }
