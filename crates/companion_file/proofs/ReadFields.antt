-- The fields of a line, both ways: what is spelled is read, and what is read is spelled.
use Rattle.std.proofs.Common.{◌≡◌, ◌⊎◌, ℕ, true, false, eqb, List, [], ◌∷◌, ◌++◌, min, ℤ, pos, neg_ℤ, Option, Some}
use Rattle.std.proofs.Common.{None, refl, sym, ap, subst, ◌∙◌, inl, inr, arith}
use Rattle.std.specs.Prelude.{codes}
use Rattle.std.specs.List.{list_all}
use Rattle.std.proofs.lemmas.Bool.{and_parts, ne_eqb}
use Rattle.std.proofs.lemmas.List.{append-nil}
use Rattle.cfs_model.specs.declared.task.Place.{Place}
use Rattle.cfs_model.specs.declared.task.Place.TheVariants.{Run, Wait, Rest}
use Rattle.text_parts.specs.Numerals.{is_digit, many, IsNumeral}
use Rattle.text_parts.specs.Reading.{◌>>=◌, or_else, after_text, numeral_at}
use Rattle.text_parts.proofs.Runs.{Stops, bind_some, at_end_taken, numeral_again, numeral_taken, text_taken}
use Rattle.text_parts.specs.Reading.{if_at_end}
use Rattle.std.proofs.lemmas.Option.{same_Some}
use Rattle.companion_file.specs.Spelling.{IsNumber, IsInteger, place_word}
use Rattle.companion_file.specs.ShapeReading.{beyond_range, place_and_rest, signed_at, number_field, number_whole}
use Rattle.companion_file.specs.ShapeReading.{integer_at, integer_field, integer_whole, place_field}
use Rattle.companion_file.proofs.Clip.{clip_integer, clip-neg}

-- what is behind a space
abbrev pub spaced_from : List ℕ → List ℕ → List ℕ
spaced_from word rest = word ++ 32 ∷ rest

-- ---- numbers

pub number_at_again : (w rest : List ℕ) (n : ℕ) → IsNumber w n → Stops is_digit rest
    → numeral_at (w ++ rest) ≡ Some (min n many, rest)
number_at_again w rest n number stops = rw number.value (numeral_again w rest number.digits stops)

pub number_field_again : (w rest : List ℕ) (n : ℕ) → IsNumber w n
    → number_field (spaced_from w rest) ≡ Some (min n many, rest)
unfolding number_field after_text
number_field_again w rest n number = rw (number_at_again w (32 ∷ rest) n number refl) refl

pub number_whole_again : (w : List ℕ) (n : ℕ) → IsNumber w n → number_whole w ≡ Some (min n many)
unfolding number_whole
number_whole_again w n number = let e = rw append-nil at (number_at_again w [] n number tt) in rw e refl

-- a number that was read
pub record ReadNumber (text : List ℕ) (m : ℕ) (rest : List ℕ) : Type 0 where
  pub word : List ℕ
  pub exact : ℕ
  pub spelled : IsNumber word exact
  pub value : m ≡ min exact many
  pub whole : text ≡ word ++ rest

number_at_taken : (text : List ℕ) (m : ℕ) (rest : List ℕ) → numeral_at text ≡ Some (m, rest) → ReadNumber text m rest
number_at_taken text m rest e =
    let t = numeral_taken text m rest e in
    record {
      word = _;
      exact = _;
      spelled = record { digits = t.digits_form; value = refl };
      value = t.value_is;
      whole = t.whole;
    }

pub number_field_taken : (text : List ℕ) (m : ℕ) (rest : List ℕ) → number_field text ≡ Some (m, rest)
    → ReadNumber text m (32 ∷ rest)
unfolding number_field
number_field_taken text m rest e =
    let a = bind_some (numeral_at text) (λ number. after_text (codes " ") number.1 >>= λ rest. Some (number.0, rest))
    (m, rest) e in
    let b = bind_some (after_text (codes " ") a.0.1) (λ rest. Some (a.0.0, rest)) (m, rest) a.2 in
    let found = same_Some (a.0.0, b.0) (m, rest) b.2 in
    let value : a.0.0 ≡ m = ap (λ (x : ℕ × List ℕ). x.0) found in
    let end : b.0 ≡ rest = ap (λ (x : ℕ × List ℕ). x.1) found in
    let behind : a.0.1 ≡ 32 ∷ rest = text_taken (codes " ") a.0.1 b.0 b.1 ∙ ap (λ (s : List ℕ). 32 ∷ s) end in
    let t = number_at_taken text a.0.0 a.0.1 a.1 in
    record {
      word = t.word;
      exact = t.exact;
      spelled = t.spelled;
      value = sym value ∙ t.value;
      whole = t.whole
          ∙ ap (λ (s : List ℕ). t.word ++ s) behind;
    }

pub number_whole_taken : (text : List ℕ) (m : ℕ) → number_whole text ≡ Some m
    → (n : ℕ) × IsNumber text n × (m ≡ min n many)
unfolding number_whole
number_whole_taken text m e =
    let a = bind_some (numeral_at text) (λ number. if_at_end number.1 number.0) m e in
    let end = at_end_taken a.0.1 a.0.0 m a.2 in
    let t = number_at_taken text a.0.0 a.0.1 a.1 in
    let whole : t.word ≡ text = sym (t.whole ∙ ap (λ (s : List ℕ). t.word ++ s) end.0 ∙ append-nil t.word) in
    (t.exact, subst (λ w. IsNumber w t.exact) whole t.spelled, sym end.1 ∙ t.value)

-- ---- integers

-- a number doesn't begin with a sign
no_sign : (w rest : List ℕ) → IsNumeral w → after_text (codes "-") (w ++ rest) ≡ None
unfolding after_text
no_sign [] rest numeral = absurd (omega (arith, numeral.some))
no_sign (b ∷ w) rest numeral =
    let digit = and_parts (is_digit b) (list_all is_digit w) numeral.all in
    let other : eqb b 45 ≡ false = ne_eqb b 45 (λ e. let minus : is_digit 45 ≡ true =
    subst (λ k. is_digit k ≡ true) e digit.0 in absurd cc) in
    rw other refl

-- the smaller of the two bounds counts
twice : (n : ℕ) → min (min n many) beyond_range ≡ min n beyond_range
twice n = omega arith

pub integer_at_again : (w rest : List ℕ) (z : ℤ) → IsInteger w z → Stops is_digit rest
    → integer_at (w ++ rest) ≡ Some (clip_integer z, rest)
unfolding integer_at after_text
integer_at_again w rest z (inl p) stops =
    rw (no_sign w rest p.1.digits, number_at_again w rest p.0 p.1 stops, p.2, twice p.0) refl
integer_at_again w rest z (inr p) stops =
    rw (p.3, p.4, number_at_again p.0 rest p.1 p.2 stops, twice p.1, clip-neg p.1) refl

pub integer_field_again : (w rest : List ℕ) (z : ℤ) → IsInteger w z
    → integer_field (spaced_from w rest) ≡ Some (clip_integer z, rest)
unfolding integer_field after_text
integer_field_again w rest z integer = rw (integer_at_again w (32 ∷ rest) z integer refl) refl

pub integer_whole_again : (w : List ℕ) (z : ℤ) → IsInteger w z → integer_whole w ≡ Some (clip_integer z)
unfolding integer_whole
integer_whole_again w z integer = let e = rw append-nil at (integer_at_again w [] z integer tt) in rw e refl

-- an integer that was read
pub record ReadInteger (text : List ℕ) (y : ℤ) (rest : List ℕ) : Type 0 where
  pub word : List ℕ
  pub exact : ℤ
  pub spelled : IsInteger word exact
  pub value : y ≡ clip_integer exact
  pub whole : text ≡ word ++ rest

-- ..whether a sign stands in front
signed_at_taken : (text : List ℕ) (behind : Option (List ℕ)) (y : ℤ) (rest : List ℕ)
    → after_text (codes "-") text ≡ behind → signed_at text behind ≡ Some (y, rest) → ReadInteger text y rest
signed_at_taken text None y rest unsigned e =
    let a = bind_some (numeral_at text) (λ number. Some (pos (min number.0 beyond_range), number.1)) (y, rest) e in
    let found = same_Some (pos (min a.0.0 beyond_range), a.0.1) (y, rest) a.2 in
    let value : pos (min a.0.0 beyond_range) ≡ y = ap (λ (x : ℤ × List ℕ). x.0) found in
    let end : a.0.1 ≡ rest = ap (λ (x : ℤ × List ℕ). x.1) found in
    let t = number_at_taken text a.0.0 a.0.1 a.1 in
    record {
      word = t.word;
      exact = pos t.exact;
      spelled = inl (t.exact, t.spelled, refl);
      value = sym value ∙ ap (λ (k : ℕ). pos (min k beyond_range)) t.value ∙ ap pos (twice t.exact);
      whole = t.whole ∙ ap (λ (s : List ℕ). t.word ++ s) end;
    }
signed_at_taken text (Some digits) y rest signed e =
    let a = bind_some (numeral_at digits) (λ number. Some (neg_ℤ (pos (min number.0 beyond_range)), number.1)) (y, rest)
    e in
    let found = same_Some (neg_ℤ (pos (min a.0.0 beyond_range)), a.0.1) (y, rest) a.2 in
    let value : neg_ℤ (pos (min a.0.0 beyond_range)) ≡ y = ap (λ (x : ℤ × List ℕ). x.0) found in
    let end : a.0.1 ≡ rest = ap (λ (x : ℤ × List ℕ). x.1) found in
    let t = number_at_taken digits a.0.0 a.0.1 a.1 in
    record {
      word = 45 ∷ t.word;
      exact = neg_ℤ (pos t.exact);
      spelled = inr (t.word, t.exact, t.spelled, refl, refl);
      value = sym value ∙ ap (λ (k : ℕ). neg_ℤ (pos (min k beyond_range))) t.value
          ∙ ap (λ (k : ℕ). neg_ℤ (pos k)) (twice t.exact) ∙ sym (clip-neg t.exact);
      whole = text_taken (codes "-") text digits signed
          ∙ ap (λ (s : List ℕ). 45 ∷ s) (t.whole ∙ ap (λ (s : List ℕ). t.word ++ s) end);
    }

pub integer_at_taken : (text : List ℕ) (y : ℤ) (rest : List ℕ) → integer_at text ≡ Some (y, rest)
    → ReadInteger text y rest
unfolding integer_at
integer_at_taken text y rest e = signed_at_taken text (after_text (codes "-") text) y rest refl e

pub integer_field_taken : (text : List ℕ) (y : ℤ) (rest : List ℕ) → integer_field text ≡ Some (y, rest)
    → ReadInteger text y (32 ∷ rest)
unfolding integer_field
integer_field_taken text y rest e =
    let a = bind_some (integer_at text) (λ integer. after_text (codes " ") integer.1 >>= λ rest. Some (integer.0, rest))
    (y, rest) e in
    let b = bind_some (after_text (codes " ") a.0.1) (λ rest. Some (a.0.0, rest)) (y, rest) a.2 in
    let found = same_Some (a.0.0, b.0) (y, rest) b.2 in
    let value : a.0.0 ≡ y = ap (λ (x : ℤ × List ℕ). x.0) found in
    let end : b.0 ≡ rest = ap (λ (x : ℤ × List ℕ). x.1) found in
    let behind : a.0.1 ≡ 32 ∷ rest = text_taken (codes " ") a.0.1 b.0 b.1 ∙ ap (λ (s : List ℕ). 32 ∷ s) end in
    let t = integer_at_taken text a.0.0 a.0.1 a.1 in
    record {
      word = t.word;
      exact = t.exact;
      spelled = t.spelled;
      value = sym value ∙ t.value;
      whole = t.whole
          ∙ ap (λ (s : List ℕ). t.word ++ s) behind;
    }

pub integer_whole_taken : (text : List ℕ) (y : ℤ) → integer_whole text ≡ Some y
    → (z : ℤ) × IsInteger text z × (y ≡ clip_integer z)
unfolding integer_whole
integer_whole_taken text y e =
    let a = bind_some (integer_at text) (λ integer. if_at_end integer.1 integer.0) y e in
    let end = at_end_taken a.0.1 a.0.0 y a.2 in
    let t = integer_at_taken text a.0.0 a.0.1 a.1 in
    let whole : t.word ≡ text = sym (t.whole ∙ ap (λ (s : List ℕ). t.word ++ s) end.0 ∙ append-nil t.word) in
    (t.exact, subst (λ w. IsInteger w t.exact) whole t.spelled, sym end.1 ∙ t.value)

-- ---- places

pub place_field_again : (place : Place) (rest : List ℕ)
    → place_field (spaced_from (place_word place) rest) ≡ Some (place, rest)
unfolding place_field after_text
place_field_again Run rest = refl
place_field_again Wait rest = refl
place_field_again Rest rest = refl

-- which word was found
place_word_found : (a b c : Option (List ℕ)) (place : Place) (rest : List ℕ)
    → or_else (place_and_rest Run a) (or_else (place_and_rest Wait b) (place_and_rest Rest c)) ≡ Some (place, rest)
    → ((Run ≡ place) × (a ≡ Some rest)) ⊎ ((Wait ≡ place) × (b ≡ Some rest)) ⊎ ((Rest ≡ place) × (c ≡ Some rest))
place_word_found (Some t) b c place rest e =
    let found = same_Some (Run, t) (place, rest) e in
    inl (ap (λ (x : Place × List ℕ). x.0) found, ap (λ (x : Place × List ℕ). Some x.1) found)
place_word_found None (Some t) c place rest e =
    let found = same_Some (Wait, t) (place, rest) e in
    inr (inl (ap (λ (x : Place × List ℕ). x.0) found, ap (λ (x : Place × List ℕ). Some x.1) found))
place_word_found None None (Some t) place rest e =
    let found = same_Some (Rest, t) (place, rest) e in
    inr (inr (ap (λ (x : Place × List ℕ). x.0) found, ap (λ (x : Place × List ℕ). Some x.1) found))
place_word_found None None None place rest e = absurd cc

pub place_field_taken : (text : List ℕ) (place : Place) (rest : List ℕ) → place_field text ≡ Some (place, rest)
    → text ≡ spaced_from (place_word place) rest
unfolding place_field
place_field_taken text place rest e =
    let P : Place → Type 0 = λ p. text ≡ spaced_from (place_word p) rest in
    elim (place_word_found (after_text (codes "run ") text) (after_text (codes "wait ") text)
    (after_text (codes "rest ") text) place rest e) [
      | inl p ↦ subst P p.0 (text_taken (codes "run ") text rest p.1)
      | inr later ↦ elim later [
        | inl p ↦ subst P p.0 (text_taken (codes "wait ") text rest p.1)
        | inr p ↦ subst P p.0 (text_taken (codes "rest ") text rest p.1)
      ]
    ]
