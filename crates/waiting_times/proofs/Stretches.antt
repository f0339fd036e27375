-- Longest stretches of numbers, found from 0 on: those that ended up to a number, and one that may go on there. One
-- more number ends a stretch exactly where something held for the number before and not for itself.
use Rattle.std.proofs.Common.{◌≡◌, ℕ, suc, ◌+◌, ◌-◌, ◌<◌, ◌≤◌, ◌⊎◌, inl, inr, List, [], ◌∷◌, ◌++◌, refl, sym, ap, ◌∙◌}
use Rattle.std.proofs.Common.{subst, arith}
use Rattle.std.specs.List.{AllByRecursion}
use Rattle.std.proofs.lemmas.Bool.{cases_lt}
use Rattle.waiting_times.specs.Waits.{Stretch, IsStretch, IsOneOf, Rise, AreStretches}

-- all stretches that end up to a number
pub record Known (holds : ℕ → Type 0) (k : ℕ) (closed : List Stretch) : Type 0 where
  pub each : AllByRecursion (IsStretch holds) closed
  pub below : AllByRecursion (λ s. s.to ≤ k) closed
  pub all : (s : Stretch) → IsStretch holds s → s.to ≤ k → IsOneOf s closed
  pub order : Rise closed

-- a stretch that goes on at a number
pub record IsOpen (holds : ℕ → Type 0) (k i : ℕ) : Type 0 where
  pub within : i ≤ k
  pub each : (n : ℕ) → i ≤ n → n ≤ k → holds n
  pub begins : (n : ℕ) → suc n ≡ i → ¬ holds n

same_stretch : (a b : Stretch) → a.from ≡ b.from → a.to ≡ b.to → a ≡ b
same_stretch a b p q = λ i. record { from = p i; to = q i }

all_both : (P Q R : Stretch → Type 0) → ((s : Stretch) → P s → Q s → R s) → (xs : List Stretch) → AllByRecursion P xs
    → AllByRecursion Q xs → AllByRecursion R xs
all_both P Q R f [] p q = tt
all_both P Q R f (x ∷ xs) p q = (f x p.0 q.0, all_both P Q R f xs p.1 q.1)

all_push : (P : Stretch → Type 0) (xs : List Stretch) (s : Stretch) → AllByRecursion P xs → P s
    → AllByRecursion P (xs ++ s ∷ [])
all_push P [] s a p = (p, tt)
all_push P (x ∷ xs) s a p = (a.0, all_push P xs s a.1 p)

rise_push : (xs : List Stretch) (s : Stretch) → Rise xs → AllByRecursion (λ x. x.from < s.from) xs
    → Rise (xs ++ s ∷ [])
rise_push [] s r a = (tt, tt)
rise_push (x ∷ xs) s r a = (all_push (λ o. x.from < o.from) xs s r.0 a.0, rise_push xs s r.1 a.1)

one_of_front : (s : Stretch) (xs ys : List Stretch) → IsOneOf s xs → IsOneOf s (xs ++ ys)
one_of_front s [] ys m = absurd m
one_of_front s (x ∷ xs) ys (inl e) = inl e
one_of_front s (x ∷ xs) ys (inr m) = inr (one_of_front s xs ys m)

one_of_last : (s t : Stretch) (xs : List Stretch) → s ≡ t → IsOneOf s (xs ++ t ∷ [])
one_of_last s t [] e = inl e
one_of_last s t (x ∷ xs) e = inr (one_of_last s t xs e)

-- at 0 none has ended
pub known_none : (holds : ℕ → Type 0) → Known holds 0 []
known_none holds = record {
  each = tt;
  below = tt;
  all = λ s h le. let some = h.some in absurd (omega arith);
  order = tt;
}

below_more : (k : ℕ) (xs : List Stretch) → AllByRecursion (λ s. s.to ≤ k) xs → AllByRecursion (λ s. s.to ≤ suc k) xs
below_more k [] a = tt
below_more k (x ∷ xs) a = (let h = a.0 in omega arith, below_more k xs a.1)

module _ (holds : ℕ → Type 0) (k : ℕ) (closed : List Stretch) (known : Known holds k closed) where
  -- no stretch ends where nothing held before, or where it holds
  pub known_on : ((holds k → ⊥) ⊎ holds (suc k)) → Known holds (suc k) closed
  known_on either = record {
    each = known.each;
    below = below_more k closed known.below;
    all = λ s h le. elim (cases_lt k s.to) [
      | inl past ↦
          let e : s.to ≡ suc k = omega arith in
          let some = h.some in
          elim either [
            | inl none ↦ absurd (none (h.each k (omega arith) (omega arith)))
            | inr holds_on ↦ absurd (h.ends (subst holds (sym e) holds_on))
          ]
      | inr before ↦ known.all s h before
    ];
    order = known.order;
  }

  -- the one that goes on ends
  pub known_end : (i : ℕ) → IsOpen holds k i → (holds (suc k) → ⊥)
      → Known holds (suc k) (closed ++ record { from = i; to = suc k } ∷ [])
  known_end i going ends =
      let last : Stretch = record { from = i; to = suc k } in
      let within = going.within in
      record {
        each = all_push (IsStretch holds) closed last known.each (record {
          some = omega arith;
          each = λ n low high. going.each n low (omega arith);
          begins = going.begins;
          ends = ends;
        });
        below = all_push (λ s. s.to ≤ suc k) closed last (below_more k closed known.below) (omega arith);
        all = λ s h le. elim (cases_lt k s.to) [
          | inl past ↦
              let e : s.to ≡ suc k = omega arith in
              one_of_last s last closed (same_stretch s last (begins_there s h e) e)
          | inr before ↦ one_of_front s closed (last ∷ []) (known.all s h before)
        ];
        order = rise_push closed last known.order
            (all_both (IsStretch holds) (λ s. s.to ≤ k) (λ s. s.from < i) begins_before closed known.each known.below);
      }
    where
      begins_there : (s : Stretch) → IsStretch holds s → s.to ≡ suc k → s.from ≡ i
      begins_there s h e =
          let within = going.within in
          let some = h.some in
          elim (cases_lt s.from i) [
            | inl before ↦
                absurd (going.begins (i - 1) (omega arith) (h.each (i - 1) (omega arith) (omega arith)))
            | inr here ↦ elim (cases_lt i s.from) [
              | inl behind ↦ absurd
                  (h.begins (s.from - 1) (omega arith) (going.each (s.from - 1) (omega arith) (omega arith)))
              | inr same ↦ omega arith
            ]
          ]

      begins_before : (s : Stretch) → IsStretch holds s → s.to ≤ k → s.from < i
      begins_before s h le = let some = h.some in elim (cases_lt s.to i) [
        | inl before ↦ omega arith
        | inr behind ↦ absurd (h.ends (going.each s.to behind le))
      ]

  -- those that end up to the last number are all
  pub known_all : ((s : Stretch) → IsStretch holds s → s.to ≤ k) → AreStretches holds closed
  known_all bound = record {
    each = known.each;
    all = λ s h. known.all s h (bound s h);
    order = known.order;
  }

-- there is one list of them
from_above : (s x : Stretch) (xs : List Stretch) → AllByRecursion (λ o. x.from < o.from) xs → IsOneOf s xs
    → x.from < s.from
from_above s x [] a m = absurd m
from_above s x (y ∷ ys) a (inl e) = subst (λ (t : Stretch). x.from < t.from) (sym e) a.0
from_above s x (y ∷ ys) a (inr m) = from_above s x ys a.1 m

each_of : (P : Stretch → Type 0) (s : Stretch) (xs : List Stretch) → AllByRecursion P xs → IsOneOf s xs → P s
each_of P s [] a m = absurd m
each_of P s (x ∷ xs) a (inl e) = subst P (sym e) a.0
each_of P s (x ∷ xs) a (inr m) = each_of P s xs a.1 m

heads : (x y : Stretch) (xs ys : List Stretch) → Rise (x ∷ xs) → Rise (y ∷ ys) → IsOneOf x (y ∷ ys)
    → IsOneOf y (x ∷ xs) → x ≡ y
heads x y xs ys r q (inl e) n = e
heads x y xs ys r q (inr m) (inl e) = sym e
heads x y xs ys r q (inr m) (inr n) =
    let a = from_above x y ys q.0 m in let b = from_above y x xs r.0 n in absurd (omega arith)

tails : (x y : Stretch) (xs ys : List Stretch) → Rise (x ∷ xs) → x ≡ y → (s : Stretch) → IsOneOf s xs
    → IsOneOf s (y ∷ ys) → IsOneOf s ys
tails x y xs ys r e s m (inl same) =
    let a = from_above s x xs r.0 m in
    let b : s.from ≡ x.from = ap (λ (t : Stretch). t.from) (same ∙ sym e) in
    absurd (omega arith)
tails x y xs ys r e s m (inr n) = n

same_members : (xs ys : List Stretch) → Rise xs → Rise ys → ((s : Stretch) → IsOneOf s xs → IsOneOf s ys)
    → ((s : Stretch) → IsOneOf s ys → IsOneOf s xs) → xs ≡ ys
same_members [] [] r q f g = refl
same_members [] (y ∷ ys) r q f g = absurd (g y (inl refl))
same_members (x ∷ xs) [] r q f g = absurd (f x (inl refl))
same_members (x ∷ xs) (y ∷ ys) r q f g =
    let e : x ≡ y = heads x y xs ys r q (f x (inl refl)) (g y (inl refl)) in
    ap (λ z. z ∷ xs) e
    ∙ ap (λ l. y ∷ l)
    (same_members xs ys r.1 q.1 (λ s m. tails x y xs ys r e s m (f s (inr m)))
    (λ s m. tails y x ys xs q (sym e) s m (g s (inr m))))

pub one_list : (holds : ℕ → Type 0) (xs ys : List Stretch) → AreStretches holds xs → AreStretches holds ys → xs ≡ ys
one_list holds xs ys a b =
    same_members xs ys a.order b.order (λ s m. b.all s (each_of (IsStretch holds) s xs a.each m))
    (λ s m. a.all s (each_of (IsStretch holds) s ys b.each m))
