-- Lists of members index by index, and the last of a window's events.
use Rattle.std.proofs.Common.{◌≡◌, ◌≢◌, ℕ, zero, suc, ◌+◌, ◌-◌, ◌<◌, ◌≤◌, List, [], ◌∷◌, ◌++◌, length, map, take, drop}
use Rattle.std.proofs.Common.{get_or, set}
use Rattle.std.proofs.Common.{get_or-set_same, get_or-set_other, inl, inr, Some, Bool, true, false, cond, refl}
use Rattle.std.proofs.Common.{sym, ap, ◌∙◌, subst, arith}
use Rattle.std.specs.Prelude.{slice_get, filter}
use Rattle.std.proofs.lemmas.Bool.{cases_lt}
use Rattle.std.proofs.lemmas.List.{get_or_default, take_at}
use Rattle.cfs_model.proofs.Moves.{same_or_not}
use Rattle.cfs_model.specs.Claimed.{Claimed}
use Rattle.cfs_model.specs.declared.act.Entry.{Entry}
use Rattle.replay_model.specs.Cut.{last_line_after, last_time_of, steps_at, touches}
use Rattle.replay_model.specs.StepAt.{step_at}
use Rattle.ticket_book.specs.Told.{view_at}
use Rattle.window_audit.specs.Last.{IsLastOf}
use Rattle.window_audit.specs.Member.{replay_of}
use Rattle.window_audit.specs.States.{forgotten, state_at}
use Rattle.window_audit.specs.declared.member.Member.{Member}

-- what holds at each index of a list and of one more, holds at each of both
pub at_more : {A : Type 0} (P : ℕ → A → Type 0) (xs : List A) (x : A)
    → ((k : ℕ) (d : A) → k < length xs → P k (get_or xs k d)) → P (length xs) x
    → (k : ℕ) (d : A) → k < length (xs ++ x ∷ []) → P k (get_or (xs ++ x ∷ []) k d)
at_more P [] x each here zero d lt = here
at_more P [] x each here (suc k) d lt = absurd (omega arith)
at_more P (y ∷ xs) x each here zero d lt = each 0 y (omega arith)
at_more P (y ∷ xs) x each here (suc k) d lt =
    at_more (λ n. P (suc n)) xs x (λ n e h. each (suc n) e (omega arith)) here k d (omega arith)

-- the element at an index
pub element : {A : Type 0} (xs : List A) (k : ℕ) → k < length xs → (x : A) × (x ≡ get_or xs k x)
element [] k lt = absurd (omega arith)
element (x ∷ xs) zero lt = (x, refl)
element (x ∷ xs) (suc k) lt = element xs k (omega arith)

-- where the replay at an index stands
pub state_here : (members : List Member) (k : ℕ) (d : Member) → k < length members
    → state_at members k ≡ (replay_of (get_or members k d)).state
state_here [] k d lt = absurd (omega arith)
state_here (m ∷ members) zero d lt = refl
state_here (m ∷ members) (suc k) d lt = state_here members k d (omega arith)

-- its page
pub page_here : (members : List Member) (k : ℕ) → k < length members
    → view_at (map (λ (m : Member). (replay_of m).state.page) members) k ≡ (state_at members k).page
page_here [] k lt = absurd (omega arith)
page_here (m ∷ members) zero lt = refl
page_here (m ∷ members) (suc k) lt = page_here members k (omega arith)

last_go : (e : Claimed) (es : List Claimed) (event : Entry)
    → slice_get (e.entry ∷ map (λ s. s.entry) es) (length (map (λ (s : Claimed). s.entry) es)) ≡ Some event
    → IsLastOf (e ∷ es) event.time event.line
last_go e [] event is = (ap (λ (x : Entry). x.time) same, ap (λ (x : Entry). x.line) same)
  where
    same : e.entry ≡ event
    same = cc
last_go e (f ∷ fs) event is = last_go f fs event is

pub last_is : (window : List Claimed) (events : List Entry) (event : Entry) → map (λ s. s.entry) window ≡ events
    → slice_get events (length events - 1) ≡ Some event → IsLastOf window event.time event.line
last_is [] events event are is = tt
last_is (e ∷ es) events event are is =
    last_go e es event (subst (λ n. slice_get (e.entry ∷ map (λ (s : Claimed). s.entry) es) n ≡ Some event) (omega
    arith)
    (subst (λ l. slice_get l (length l - 1) ≡ Some event) (sym are) is))

-- a window behind some events ends them
pub last_time_behind : (start : ℕ) (xs window : List Claimed) (time line : ℕ) → window ≢ [] → IsLastOf window time line
    → last_time_of start (xs ++ window) ≡ time
last_time_behind start [] [] time line some last = absurd (some refl)
last_time_behind start [] (e ∷ es) time line some last = last.0
last_time_behind start (x ∷ xs) window time line some last = last_time_behind x.entry.time xs window time line some last

pub last_line_behind : (above : ℕ) (xs window : List Claimed) (time line : ℕ) → window ≢ []
    → IsLastOf window time line → last_line_after above (xs ++ window) ≡ line
last_line_behind above [] [] time line some last = absurd (some refl)
last_line_behind above [] (e ∷ es) time line some last = last.1
last_line_behind above (x ∷ xs) window time line some last = last_line_behind x.entry.line xs window time line some last

-- a processor has at most a step for each event
pub steps_few : (cpu : ℕ) (events : List Claimed) → length (steps_at cpu events) ≤ length events
steps_few cpu [] = omega arith
steps_few cpu (e ∷ es) = go (touches cpu e) (steps_few cpu es)
  where
    go : (b : Bool) → length (steps_at cpu es) ≤ length es
        → length (map (step_at cpu) (cond b (e ∷ filter (touches cpu) es) (filter (touches cpu) es))) ≤ length (e ∷ es)
    go true h = omega arith
    go false h = omega arith

-- what was none below an index and isn't there, is none below the next
pub calm_more : (members : List Member) (i : ℕ) (here : Member)
    → ((k : ℕ) (d : Member) → k < i → (get_or members k d).wants_memory ≡ false)
    → i < length members → here ≡ get_or members i here → here.wants_memory ≡ false
    → (k : ℕ) (d : Member) → k < i + 1 → (get_or members k d).wants_memory ≡ false
calm_more members i here before within is calm k d lt = elim (same_or_not k i) [
  | inl same ↦
      ap (λ n. (get_or members n d).wants_memory) same
      ∙ ap (λ (m : Member). m.wants_memory) (get_or_default members i d here within ∙ sym is) ∙ calm
  | inr other ↦ before k d (below_other k i lt other)
]
  where
    below_other : (k i : ℕ) → k < i + 1 → k ≢ i → k < i
    below_other k i lt ne = elim (cases_lt k i) [
      | inl h ↦ h
      | inr h ↦ absurd (ne (omega arith))
    ]

-- one more that forgets
module _ (first members : List Member) (i : ℕ) (here new : Member) (within : i < length members)
    (is : here ≡ get_or members i here)
    (done : (k : ℕ) (d : Member) → k < i → replay_of (get_or members k d) ≡ forgotten (replay_of (get_or first k d)))
    (rest : (k : ℕ) (d : Member) → i ≤ k → get_or members k d ≡ get_or first k d)
    (forgot : replay_of new ≡ forgotten (replay_of here)) where
  pub forget_done : (k : ℕ) (d : Member) → k < i + 1
      → replay_of (get_or (set members i new) k d) ≡ forgotten (replay_of (get_or first k d))
  forget_done k d lt = elim (same_or_not k i) [
    | inl same ↦
        ap (λ n. replay_of (get_or (set members i new) n d)) same
        ∙ ap replay_of (get_or-set_same members i new d within) ∙ forgot
        ∙ ap (λ m. forgotten (replay_of m)) (is ∙ get_or_default members i here d within ∙ rest i d (omega arith)
        ∙ ap (λ n. get_or first n d) (sym same))
    | inr other ↦
        ap replay_of (get_or-set_other members i k new d other) ∙ done k d (lower k i lt other)
  ]
    where
      lower : (k i : ℕ) → k < i + 1 → k ≢ i → k < i
      lower k i lt ne = elim (cases_lt k i) [
        | inl h ↦ h
        | inr h ↦ absurd (ne (omega arith))
      ]

  pub forget_rest : (k : ℕ) (d : Member) → i + 1 ≤ k → get_or (set members i new) k d ≡ get_or first k d
  forget_rest k d le =
      let other : k ≢ i = omega arith in
      get_or-set_other members i k new d other ∙ rest k d (omega arith)

-- what is written to all of a list is what it then has
pub with_all : {A : Type 0} (xs ys : List A) (n : ℕ) → length xs ≡ length ys → length ys ≡ n
    → take n (xs ++ drop (length xs) ys) ≡ xs
with_all xs ys n same all = take_at xs (drop (length xs) ys) n (same ∙ all)
