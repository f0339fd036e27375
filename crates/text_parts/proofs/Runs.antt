-- The primitives of reading, both ways: what was taken is so, and what is so is taken. A run ends where a byte that
-- doesn't pass follows it, so it is the longest front that passes.
use Rattle.std.proofs.Common.{◌≡◌, ℕ, ◌<◌, ◌≤◌, ◌==◌, Bool, true, false, cond, eqb, List, [], ◌∷◌, ◌++◌, length, drop}
use Rattle.std.proofs.Common.{take, get_or, subst}
use Rattle.std.proofs.Common.{min, Option, Some, None, refl, sym, ap, inl, inr, arith, one-add}
use Rattle.std.specs.Prelude.{IsTrue, ◌≢◌}
use Rattle.std.specs.List.{prefix_len, list_all, take_while}
use Rattle.std.proofs.lemmas.Bool.{cases_Bool, and_parts, and_from, eqb-true, eqb-false, eq-eqb, ne_eqb}
use Rattle.std.proofs.lemmas.List.{take_at, drop_at, take-append-drop, length-take-le, nil_from_length, get_or-take}
use Rattle.std.proofs.lemmas.List.Sums.{prefix_len-le-length, prefix_len_is, prefix_len_passes, prefix_len_stops}
use Rattle.std.proofs.lemmas.Option.{same_Some}
use Rattle.text_parts.specs.Numerals.{is_digit, value_of, many, IsNumeral}
use Rattle.text_parts.specs.Pieces.{IsRunOf}
use Rattle.text_parts.specs.Reading.{◌>>=◌, if_at_end, after_text, after_run, numeral_at, front_value}

pub prefix_within : (test : ℕ → Bool) (s : List ℕ) → prefix_len test s ≤ length s
prefix_within test s = prefix_len-le-length test s

-- the text is empty, or its first byte doesn't pass
abbrev pub Stops : (ℕ → Bool) → List ℕ → Type 0
Stops test [] = Unit {0}
Stops test (b ∷ s) = test b ≡ false

-- a text that begins with a run stops at each test that the run's bytes fail
pub stops_at_run : (test other : ℕ → Bool) (w s : List ℕ) → IsRunOf other w →
    ((b : ℕ) → other b ≡ true → test b ≡ false) → Stops test (w ++ s)
stops_at_run test other [] s run apart = absurd (omega (arith, run.some))
stops_at_run test other (b ∷ w) s run apart = apart b (and_parts (other b) (list_all other w) run.all).0

-- ---- chains

-- the value of a step that found something
pub bind_some : {A B : Type 0} (r : Option A) (f : A → Option B) (y : B) → (r >>= f) ≡ Some y →
    (x : A) × (r ≡ Some x) × (f x ≡ Some y)
bind_some (Some x) f y e = (x, refl, e)
bind_some None f y e = absurd cc

-- the same, with plain names for what was found
pub bind_elim : {A B C : Type 0} (r : Option A) (f : A → Option B) (y : B) → (r >>= f) ≡ Some y →
    ((x : A) → r ≡ Some x → f x ≡ Some y → C) → C
bind_elim (Some x) f y e k = k x refl e
bind_elim None f y e k = absurd cc

-- a test that let something through
pub guard_some : {A : Type 0} (b : Bool) (x : Option A) (y : A) → cond b None x ≡ Some y → (b ≡ false) × (x ≡ Some y)
guard_some true x y e = absurd cc
guard_some false x y e = (refl, e)

-- what was read to the end of a text leaves nothing
pub at_end_taken : {A : Type 0} (rest : List ℕ) (made read : A) → if_at_end rest made ≡ Some read → (rest ≡ [])
    × (made ≡ read)
at_end_taken rest made read e =
    elim (cases_Bool (eqb (length rest) 0)) [
      | inl end ↦
          let found : Some made ≡ Some read = rw end at e in
          (nil_from_length rest (eqb-true (length rest) 0 end), same_Some made read found)
      | inr more ↦ let none : None ≡ Some read = rw more at e in absurd cc
    ]

-- nothing, where no value can be found
pub none_from : {A : Type 0} (r : Option A) → ((x : A) → r ≡ Some x → ⊥) → r ≡ None
none_from None h = refl
none_from (Some x) h = absurd (h x refl)

-- ---- runs

pub prefix_len-run : (test : ℕ → Bool) (w s : List ℕ) → IsTrue (list_all test w) → Stops test s →
    prefix_len test (w ++ s) ≡ length w
prefix_len-run test [] [] all stops = refl
prefix_len-run test [] (b ∷ s) all stops = rw stops refl
prefix_len-run test (b ∷ w) s all stops =
    let p = and_parts (test b) (list_all test w) all in
    rw (p.0, prefix_len-run test w s p.1 stops, one-add) refl

-- the longest front that passes does pass
pub run_passes : (test : ℕ → Bool) (s : List ℕ) → IsTrue (list_all test (take_while test s))
run_passes test [] = refl
run_passes test (b ∷ s) =
    elim (cases_Bool (test b)) [
      | inl e ↦ rw (e, one-add) (and_from (test b) (list_all test (take_while test s)) e (run_passes test s))
      | inr e ↦ rw e refl
    ]

pub length_front : (test : ℕ → Bool) (s : List ℕ) → length (take_while test s) ≡ prefix_len test s
length_front test s = length-take-le (prefix_len test s) s (prefix_within test s)

-- the longest front that passes is a run, where it isn't empty
pub front_is_run : (test : ℕ → Bool) (s : List ℕ) → 0 < prefix_len test s → IsRunOf test (take_while test s)
front_is_run test s some = record { some = omega (arith, length_front test s); all = run_passes test s }

pub front_and_rest : (test : ℕ → Bool) (s : List ℕ) → s ≡ take_while test s ++ drop (prefix_len test s) s
front_and_rest test s = sym (take-append-drop (prefix_len test s) s)

pub run_taken : (test : ℕ → Bool) (s rest : List ℕ) → after_run test s ≡ Some rest →
    (w : List ℕ) × IsRunOf test w × (s ≡ w ++ rest)
unfolding after_run
run_taken test s rest e =
    let g = guard_some (prefix_len test s == 0) (Some (drop (prefix_len test s) s)) rest e in
    let some : 0 < prefix_len test s = omega (arith, eqb-false (prefix_len test s) 0 g.0) in
    let rest_is : drop (prefix_len test s) s ≡ rest = cc in
    (take_while test s, front_is_run test s some, rw (← rest_is) (front_and_rest test s))

pub run_again : (test : ℕ → Bool) (w s : List ℕ) → IsRunOf test w → Stops test s → after_run test (w ++ s) ≡ Some s
unfolding after_run
run_again test w s run stops =
    let len = prefix_len-run test w s run.all stops in
    let some : eqb (length w) 0 ≡ false = ne_eqb (length w) 0 (λ e. omega (arith, run.some)) in
    rw (len, some, drop_at w s (length w) refl) refl

-- ---- fixed texts

pub text_taken : (front s rest : List ℕ) → after_text front s ≡ Some rest → s ≡ front ++ rest
unfolding after_text
text_taken [] s rest e = cc
text_taken (c ∷ front) [] rest e = absurd cc
text_taken (c ∷ front) (b ∷ s) rest e =
    elim (cases_Bool (eqb b c)) [
      | inl same ↦
          let later : after_text front s ≡ Some rest = rw same at e in
          let head : b ≡ c = eqb-true b c same in
          let tail : s ≡ front ++ rest = text_taken front s rest later in
          cc
      | inr other ↦ let none : None ≡ Some rest = rw other at e in absurd cc
    ]

-- nothing is taken where the bytes don't stand in front
pub no_text : (front s : List ℕ) → ((rest : List ℕ) → s ≢ front ++ rest) → after_text front s ≡ None
no_text front s none = none_from (after_text front s) (λ rest e. none rest (text_taken front s rest e))

pub text_again : (front rest : List ℕ) → after_text front (front ++ rest) ≡ Some rest
unfolding after_text
text_again [] rest = refl
text_again (c ∷ front) rest = rw (eq-eqb c c refl) (text_again front rest)

-- ---- numbers

-- what the digits at the front of a text are, where they are so many
pub record DigitsInFront (digits rest text : List ℕ) : Type 0 where
  pub length_is : prefix_len is_digit text ≡ length digits
  pub value_is : front_value text ≡ min (value_of digits) many
  pub rest_is : drop (prefix_len is_digit text) text ≡ rest

pub digits_in_front : (digits rest : List ℕ) → IsNumeral digits → Stops is_digit rest
    → DigitsInFront digits rest (digits ++ rest)
digits_in_front digits rest numeral stops =
    let len = prefix_len-run is_digit digits rest numeral.all stops in
    record {
      length_is = len;
      value_is = rw (len, take_at digits rest (length digits) refl) refl;
      rest_is = rw (len, drop_at digits rest (length digits) refl) refl;
    }

pub numeral_again : (digits rest : List ℕ) → IsNumeral digits → Stops is_digit rest →
    numeral_at (digits ++ rest) ≡ Some (min (value_of digits) many, rest)
unfolding numeral_at
numeral_again digits rest numeral stops =
    let b = digits_in_front digits rest numeral stops in
    let some : eqb (length digits) 0 ≡ false = ne_eqb (length digits) 0 (λ e. omega (arith, numeral.some)) in
    rw (b.value_is, b.rest_is, b.length_is, some) refl

pub record TakesNumeral (s : List ℕ) (value : ℕ) (rest : List ℕ) : Type 0 where
  pub digits_form : IsNumeral (take_while is_digit s)
  pub value_is : value ≡ min (value_of (take_while is_digit s)) many
  pub whole : s ≡ take_while is_digit s ++ rest

pub numeral_taken : (s : List ℕ) (value : ℕ) (rest : List ℕ) → numeral_at s ≡ Some (value, rest)
    → TakesNumeral s value rest
unfolding numeral_at
numeral_taken s value rest e =
    let g = guard_some (prefix_len is_digit s == 0) (Some (front_value s, drop (prefix_len is_digit s) s))
    (value, rest) e in
    let some : 0 < prefix_len is_digit s = omega (arith, eqb-false (prefix_len is_digit s) 0 g.0) in
    let found : (front_value s, drop (prefix_len is_digit s) s) ≡ (value, rest) =
    same_Some (front_value s, drop (prefix_len is_digit s) s) (value, rest) g.1 in
    let value_of_it : front_value s ≡ value = ap (λ (x : ℕ × List ℕ). x.0) found in
    let rest_of_it : drop (prefix_len is_digit s) s ≡ rest = ap (λ (x : ℕ × List ℕ). x.1) found in
    record {
      digits_form = front_is_run is_digit s some;
      value_is = sym value_of_it;
      whole = rw (← rest_of_it) (front_and_rest is_digit s);
    }

-- ---- runs that end within a front

-- a run that ends before a front does is the run of the whole
pub run_in_front : (test : ℕ → Bool) (n : ℕ) (s : List ℕ) → prefix_len test (take n s) < n → n ≤ length s
    → prefix_len test (take n s) ≡ prefix_len test s
run_in_front test n s short le =
    let p = prefix_len test (take n s) in
    let front : length (take n s) ≡ n = length-take-le n s le in
    let at_end : test (get_or (take n s) p 0) ≡ false = prefix_len_stops test (take n s) 0 (omega (arith, front)) in
    let before : (k : ℕ) → k < p → test (get_or s k 0) ≡ true =
    λ k lt. subst (λ b. test b ≡ true) (get_or-take n s k 0 (omega arith)) (prefix_len_passes test (take n s) k 0 lt) in
    sym (prefix_len_is test s p 0 (omega arith) before
    (λ lt. subst (λ b. test b ≡ false) (get_or-take n s p 0 (omega arith)) at_end))
