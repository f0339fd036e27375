-- Pursuers index by index, and what is found first among them.
use Rattle.std.proofs.Common.{◌≡◌, ℕ, zero, suc, ◌+◌, ◌<◌, ◌≤◌, nat_lt, Bool, true, false, Option, Some, None, List, []}
use Rattle.std.proofs.Common.{◌∷◌, ◌++◌, length, get_or, set, get_or-set_same, get_or-set_other, inl, inr, refl, sym}
use Rattle.std.proofs.Common.{ap, ◌∙◌}
use Rattle.std.proofs.Common.{subst, if◌then◌else◌, true≢false, arith}
use Rattle.std.proofs.lemmas.Bool.{cases_lt, ltb-true, lt-ltb}
use Rattle.std.proofs.lemmas.List.{get_or_default}
use Rattle.cfs_model.proofs.Moves.{same_or_not}
use Rattle.cfs_model.specs.Claimed.{Claimed}
use Rattle.queue_replay.specs.Windowed.{WindowedView, windowed_view}
use Rattle.replay_model.specs.Cut.{steps_at}
use Rattle.window_audit.specs.States.{forgotten}
use Rattle.least_audit.specs.FirstOf.{IsFirstOf, goes_first}
use Rattle.least_audit.specs.Pursuers.{AllPursuedOn, rises_of, view_at}
use Rattle.least_audit.specs.Pursuit.{Pursues}
use Rattle.least_audit.specs.declared.pursuer.Pursuer.{Pursuer}

-- where the one at an index stands, and where its needs rose
pub view_here : (pursuers : List Pursuer) (k : ℕ) (d : Pursuer) → k < length pursuers
    → view_at pursuers k ≡ windowed_view (get_or pursuers k d).replay
view_here [] k d lt = absurd (omega arith)
view_here (p ∷ pursuers) zero d lt = refl
view_here (p ∷ pursuers) (suc k) d lt = view_here pursuers k d (omega arith)

pub rises_here : (pursuers : List Pursuer) (k : ℕ) (d : Pursuer) → k < length pursuers
    → rises_of pursuers k ≡ (get_or pursuers k d).rises
rises_here [] k d lt = absurd (omega arith)
rises_here (p ∷ pursuers) zero d lt = refl
rises_here (p ∷ pursuers) (suc k) d lt = rises_here pursuers k d (omega arith)

pub item_here : (pursuers : List Pursuer) (k : ℕ) (item : Pursuer) → k < length pursuers
    → item ≡ get_or pursuers k item
    → (view_at pursuers k ≡ windowed_view item.replay) × (rises_of pursuers k ≡ item.rises)
item_here pursuers k item lt is = (
  view_here pursuers k item lt ∙ ap (λ (p : Pursuer). windowed_view p.replay) (sym is),
  rises_here pursuers k item lt ∙ ap (λ (p : Pursuer). p.rises) (sym is),
)

-- what holds of each and of one more, holds of all
pub each_more : (P : ℕ → WindowedView → Type 0) (pursuers : List Pursuer) (one : Pursuer)
    → ((k : ℕ) → k < length pursuers → P k (view_at pursuers k)) → P (length pursuers) (windowed_view one.replay)
    → (k : ℕ) → k < length (pursuers ++ one ∷ []) → P k (view_at (pursuers ++ one ∷ []) k)
each_more P [] one each here zero lt = here
each_more P [] one each here (suc k) lt = absurd (omega arith)
each_more P (p ∷ pursuers) one each here zero lt = each 0 (omega arith)
each_more P (p ∷ pursuers) one each here (suc k) lt =
    each_more (λ n. P (suc n)) pursuers one (λ n h. each (suc n) (omega (arith, h))) here k (omega arith)

-- of a window that all went through, each did
pub pursued_at : (window : List Claimed) (before after : List Pursuer) → length after ≡ length before
    → AllPursuedOn window before after → (cpu : ℕ) → cpu < length before
    → Pursues (forgotten (view_at before cpu)) (steps_at (view_at before cpu).cpu window) (view_at after cpu)
    (rises_of after cpu)
pursued_at window [] after same all cpu lt = absurd (omega arith)
pursued_at window (b ∷ before) [] same all cpu lt = absurd (omega (arith, same))
pursued_at window (b ∷ before) (a ∷ after) same all zero lt = all 0 b lt
pursued_at window (b ∷ before) (a ∷ after) same all (suc cpu) lt =
    pursued_at window before after (let e = same in omega (arith, e))
    (λ k d h. all (suc k) d (omega (arith, h))) cpu (omega arith)

below_other : (k i : ℕ) → k < i + 1 → ¬ (k ≡ i) → k < i
below_other k i lt ne = elim (cases_lt k i) [
  | inl h ↦ h
  | inr h ↦ absurd (ne (omega arith))
]

-- what holds of each below an index, and then of that one, while the others are as they were
module _ {A : Type 0} (R : A → A → Type 0) (first now : List A) (i : ℕ) (here new : A) (within : i < length now)
    (is : here ≡ get_or now i here)
    (done : (k : ℕ) (d : A) → k < i → R (get_or first k d) (get_or now k d))
    (rest : (k : ℕ) (d : A) → i ≤ k → get_or now k d ≡ get_or first k d)
    (related : R here new) where
  pub done_more : (k : ℕ) (d : A) → k < i + 1 → R (get_or first k d) (get_or (set now i new) k d)
  done_more k d lt = elim (same_or_not k i) [
    | inl same ↦
        subst (λ n. R (get_or first n d) (get_or (set now i new) n d)) (sym same)
        (subst (λ x. R x (get_or (set now i new) i d))
        (is ∙ get_or_default now i here d within ∙ rest i d (omega arith))
        (subst (R here) (sym (get_or-set_same now i new d within)) related))
    | inr other ↦
        subst (R (get_or first k d)) (sym (get_or-set_other now i k new d other))
        (done k d (below_other k i lt other))
  ]

  pub rest_more : (k : ℕ) (d : A) → i + 1 ≤ k → get_or (set now i new) k d ≡ get_or first k d
  rest_more k d le =
      let other : ¬ (k ≡ i) = omega arith in
      get_or-set_other now i k new d other ∙ rest k d (omega arith)

none_some : {A : Type 0} (o : Option A) (a : A) → o ≡ None → o ≡ Some a → ⊥
none_some o a e f = cc

some_one : {A : Type 0} (o : Option A) (a b : A) → o ≡ Some a → o ≡ Some b → a ≡ b
some_one o a b e f = cc

pub not_below : (a b : ℕ) → nat_lt a b ≡ false → b ≤ a
not_below a b e = elim (cases_lt a b) [
  | inl k ↦ (let t = lt-ltb a b k in absurd cc)
  | inr k ↦ k
]

-- what is first, with one more
module _ {A : Type 0} (key : A → ℕ) (at : ℕ → Option A) (i : ℕ) where
  at_last : (k : ℕ) → k < i + 1 → i ≤ k → at k ≡ at i
  at_last k lt le = let e : k ≡ i = omega (arith, lt, le) in ap at e

  same_key : (o : Option A) (a b : A) → o ≡ Some a → o ≡ Some b → key a ≤ key b
  same_key o a b e f = let s = ap key (some_one o a b e f) in omega (arith, s)

  pub first_more : (first next : Option A) → IsFirstOf key at i first → at i ≡ next → (b : Bool)
      → b ≡ goes_first key next first → IsFirstOf key at (i + 1) (if b then next else first)
  first_more None None h is true e = λ k lt. elim (cases_lt k i) [
    | inl less ↦ h k less
    | inr le ↦ at_last k lt le ∙ is
  ]
  first_more None (Some a) h is true e = record {
    index = i;
    within = omega arith;
    there = is;
    least = λ k b lt there. elim (cases_lt k i) [
      | inl less ↦ absurd (none_some (at k) b (h k less) there)
      | inr le ↦ same_key (at i) a b is (sym (at_last k lt le) ∙ there)
    ];
    lowest = λ k b lt there. absurd (none_some (at k) b (h k lt) there);
  }
  first_more None next h is false e = absurd (true≢false (sym e))
  first_more (Some f) None h is true e = absurd (true≢false e)
  first_more (Some f) None h is false e = record {
    index = h.index;
    within = (let w = h.within in omega (arith, w));
    there = h.there;
    least = λ k b lt there. elim (cases_lt k i) [
      | inl less ↦ h.least k b less there
      | inr le ↦ absurd (none_some (at k) b (at_last k lt le ∙ is) there)
    ];
    lowest = h.lowest;
  }
  first_more (Some f) (Some a) h is true e =
      let k = ltb-true (key a) (key f) (sym e) in
      record {
        index = i;
        within = omega arith;
        there = is;
        least = λ n b lt there. elim (cases_lt n i) [
          | inl less ↦ (let l = h.least n b less there in omega (arith, l, k))
          | inr le ↦ same_key (at i) a b is (sym (at_last n lt le) ∙ there)
        ];
        lowest = λ n b lt there. (let l = h.least n b lt there in omega (arith, l, k));
      }
  first_more (Some f) (Some a) h is false e =
      let k = not_below (key a) (key f) (sym e) in
      record {
        index = h.index;
        within = (let w = h.within in omega (arith, w));
        there = h.there;
        least = λ n b lt there. elim (cases_lt n i) [
          | inl less ↦ h.least n b less there
          | inr le ↦ (let s = same_key (at i) a b is (sym (at_last n lt le) ∙ there) in omega (arith, s, k))
        ];
        lowest = h.lowest;
      }
