-- The parts of a head, both ways: what a part took is so, and what is so is taken.
use Rattle.std.proofs.Common.{◌≡◌, ℕ, suc, ◌<◌, ◌≤◌, ◌==◌, ◌&&◌, ◌||◌, true, false, cond, eqb, ltb, leb, List, [], ◌∷◌}
use Rattle.std.proofs.Common.{◌++◌, length, get_or, take, drop, min, Option, Some, None, refl, sym, ap, ◌∙◌, inl, inr}
use Rattle.std.proofs.Common.{arith, append_assoc, codes}
use Rattle.std.specs.List.{prefix_len, take_while}
use Rattle.std.proofs.lemmas.Bool.{cases_Bool, and_parts, or_parts, not-true, ltb-true, ltb-false, leb-true, eqb-true}
use Rattle.std.proofs.lemmas.Bool.{ne_eqb, lt-ltb, le-ltb}
use Rattle.std.proofs.lemmas.List.{drop_at, drop_more, take-append-drop, length-append, length-take-le, get_or_at}
use Rattle.std.proofs.lemmas.Option.{same_Some}
use Rattle.text_parts.specs.Numerals.{is_digit, value_of, many, IsNumeral}
use Rattle.text_parts.specs.Pieces.{IsRunOf, is_space, IsGap}
use Rattle.ftrace_line.specs.Head.{is_group_byte, IsThreadGroup, is_flag}
use Rattle.text_parts.specs.Reading.{or_else, after_text, after_run, front_value}
use Rattle.ftrace_line.specs.Meaning.{after_name, after_brackets, after_group, processor_at}
use Rattle.text_parts.proofs.Runs.{Stops, digits_in_front, DigitsInFront, run_again, run_taken, text_taken, text_again}
use Rattle.text_parts.proofs.Runs.{bind_elim, guard_some, front_is_run, front_and_rest, length_front}

-- ---- bytes that are told apart

pub space_is_no_digit : (b : ℕ) → is_space b ≡ true → is_digit b ≡ false
space_is_no_digit b e = rw (eqb-true b 32 e) refl

pub digit_is_no_space : (b : ℕ) → is_digit b ≡ true → is_space b ≡ false
digit_is_no_space b e =
    let p = and_parts (leb 48 b) (leb b 57) e in
    ne_eqb b 32 (λ same. omega (arith, leb-true 48 b p.0))

pub flag_is_no_space : (b : ℕ) → is_flag b ≡ true → is_space b ≡ false
flag_is_no_space b e = (or_parts (is_space b) (b == 58) (not-true (is_space b || b == 58) e)).0

-- ---- the name

pub head_name_again : (name rest : List ℕ) → length name ≡ 15 → after_name (32 ∷ (name ++ (45 ∷ rest))) ≡ Some rest
unfolding after_name
head_name_again name rest width =
    let text : List ℕ = name ++ (45 ∷ rest) in
    let long : ltb 16 (suc (length text)) ≡ true =
    lt-ltb 16 (suc (length text)) (omega (arith, length-append name (45 ∷ rest))) in
    let dash : get_or text 15 0 ≡ 45 = get_or_at name 45 rest 0 15 width in
    let regrouped : text ≡ (name ++ 45 ∷ []) ++ rest = sym (append_assoc name (45 ∷ []) rest) in
    let left : drop 16 text ≡ rest =
    ap (drop 16) regrouped ∙ drop_at (name ++ 45 ∷ []) rest 16 (omega (arith, length-append name (45 ∷ []))) in
    rw (long, dash, left) refl

pub name_taken : (line rest : List ℕ) → after_name line ≡ Some rest →
    (name : List ℕ) × (length name ≡ 15) × (line ≡ 32 ∷ (name ++ (45 ∷ rest)))
unfolding after_name
name_taken [] rest e = absurd cc
name_taken (b ∷ s) rest e =
    elim (cases_Bool (ltb 16 (suc (length s)) && (eqb b 32 && eqb (get_or s 15 0) 45))) [
      | inl fits ↦
          let p = and_parts (ltb 16 (suc (length s))) (eqb b 32 && eqb (get_or s 15 0) 45) fits in
          let q = and_parts (eqb b 32) (eqb (get_or s 15 0) 45) p.1 in
          let long : 16 < suc (length s) = ltb-true 16 (suc (length s)) p.0 in
          let found : Some (drop 16 s) ≡ Some rest = rw fits at e in
          let behind : drop 15 s ≡ 45 ∷ rest =
          drop_more s 15 0 (omega arith) ∙ ap (λ c. c ∷ drop 16 s) (eqb-true (get_or s 15 0) 45 q.1)
          ∙ ap (λ (t : List ℕ). 45 ∷ t) (same_Some (drop 16 s) rest found) in (
            take 15 s,
            length-take-le 15 s (omega arith),
            ap (λ c. c ∷ s) (eqb-true b 32 q.0)
                ∙ ap (λ (t : List ℕ). 32 ∷ t)
                (sym (take-append-drop 15 s) ∙ ap (λ (t : List ℕ). take 15 s ++ t) behind),
          )
      | inr other ↦ let nothing : None ≡ Some rest = rw other at e in absurd cc
    ]

-- ---- the thread group

pub group_again : (group rest : List ℕ) → IsThreadGroup group → after_group (group ++ (91 ∷ rest)) ≡ Some (91 ∷ rest)
unfolding after_group after_brackets after_text
group_again group rest (inl none) = rw none refl
group_again group rest (inr (w, gap, run, space, whole)) =
    let text : List ℕ = 91 ∷ rest in
    let regrouped : group ++ text ≡ 40 ∷ (w ++ (41 ∷ (gap ++ text))) =
    ap (λ (t : List ℕ). t ++ text) whole ∙ ap (λ (t : List ℕ). 40 ∷ t) (append_assoc w (41 ∷ gap) text) in
    rw (regrouped, run_again is_group_byte w (41 ∷ (gap ++ text)) run refl, run_again is_space gap text space refl) refl

pub group_stops : (group rest : List ℕ) → IsThreadGroup group → Stops is_space (group ++ (91 ∷ rest))
group_stops group rest (inl none) = rw none refl
group_stops group rest (inr (w, gap, run, space, whole)) = rw whole refl

brackets_from : (s group bracket gap rest : List ℕ) → s ≡ 40 ∷ group →
    (w : List ℕ) × IsRunOf is_group_byte w × (group ≡ w ++ bracket) → bracket ≡ 41 ∷ gap →
    (v : List ℕ) × IsGap v × (gap ≡ v ++ rest) → (g : List ℕ) × IsThreadGroup g × (s ≡ g ++ rest)
brackets_from s group bracket gap rest first (w, run, inside) second (v, space, behind) = (
  40 ∷ (w ++ (41 ∷ v)),
  inr (w, v, run, space, refl),
  first ∙ ap (λ (t : List ℕ). 40 ∷ t) (inside
      ∙ ap (λ (t : List ℕ). w ++ t) (second ∙ ap (λ (t : List ℕ). 41 ∷ t) behind) ∙ sym (append_assoc w (41 ∷ v) rest)),
)

pub brackets_taken : (s rest : List ℕ) → after_brackets s ≡ Some rest → (g : List ℕ) × IsThreadGroup g × (s ≡ g ++ rest)
unfolding after_brackets
brackets_taken s rest e =
    bind_elim (after_text (codes "(") s) _ rest e (λ group open_bracket e.
    bind_elim (after_run is_group_byte group) _ rest e (λ bracket inside e.
    bind_elim (after_text (codes ")") bracket) _ rest e (λ gap close_bracket e.
    brackets_from s group bracket gap rest (text_taken (codes "(") s group open_bracket)
    (run_taken is_group_byte group bracket inside) (text_taken (codes ")") bracket gap close_bracket)
    (run_taken is_space gap rest e))))

group_from : (s rest : List ℕ) (r : Option (List ℕ))
    → (r ≡ Some rest → (g : List ℕ) × IsThreadGroup g × (s ≡ g ++ rest)) →
    or_else r (Some s) ≡ Some rest → (g : List ℕ) × IsThreadGroup g × (s ≡ g ++ rest)
group_from s rest (Some x) taken e = taken e
group_from s rest None taken e = ([], inl refl, same_Some s rest e)

pub group_taken : (s rest : List ℕ) → after_group s ≡ Some rest → (g : List ℕ) × IsThreadGroup g × (s ≡ g ++ rest)
unfolding after_group
group_taken s rest e = group_from s rest (after_brackets s) (λ e. brackets_taken s rest e) e

-- ---- the processor

pub processor_again : (digits rest : List ℕ) → IsNumeral digits → 3 ≤ length digits →
    processor_at (91 ∷ (digits ++ (93 ∷ rest))) ≡ Some (min (value_of digits) many, rest)
unfolding processor_at
processor_again digits rest numeral width =
    let b : DigitsInFront digits (93 ∷ rest) (digits ++ (93 ∷ rest)) =
    digits_in_front digits (93 ∷ rest) numeral refl in
    rw (
      text_again (codes "[") (digits ++ (93 ∷ rest)),
      b.value_is,
      b.rest_is,
      b.length_is,
      le-ltb
          (length digits) 3 width,
      text_again (codes "]") rest,
    ) refl

pub record TakesProcessor (s : List ℕ) (value : ℕ) (rest : List ℕ) : Type 0 where
  pub digits : List ℕ
  pub form : IsNumeral digits
  pub width : 3 ≤ length digits
  pub value_is : value ≡ min (value_of digits) many
  pub whole : s ≡ 91 ∷ (digits ++ (93 ∷ rest))

abbrev number_found : ℕ → List ℕ → Option (ℕ × List ℕ)
number_found value rest = Some (value, rest)

processor_from : (s digits left : List ℕ) (value : ℕ) (rest : List ℕ) → s ≡ 91 ∷ digits →
    cond (ltb (prefix_len is_digit digits) 3) None (after_text (codes "]") (drop (prefix_len is_digit digits) digits))
    ≡ Some left → number_found (front_value digits) left ≡ number_found value rest → TakesProcessor s value rest
processor_from s digits left value rest first found e =
    let g =
    guard_some (ltb (prefix_len is_digit digits) 3)
    (after_text (codes "]") (drop (prefix_len is_digit digits) digits)) left found in
    let width : 3 ≤ prefix_len is_digit digits = ltb-false (prefix_len is_digit digits) 3 g.0 in
    let both : (front_value digits, left) ≡ (value, rest) = same_Some (front_value digits, left) (value, rest) e in
    let front : List ℕ = take_while is_digit digits in
    let bracket : drop (prefix_len is_digit digits) digits ≡ 93 ∷ rest =
    text_taken (codes "]") (drop (prefix_len is_digit digits) digits) left g.1
    ∙ ap (λ (x : ℕ × List ℕ). 93 ∷ x.1) both in
    record {
      digits = front;
      form = front_is_run is_digit digits (omega arith);
      width = omega (arith, length_front is_digit digits);
      value_is = sym (ap (λ (x : ℕ × List ℕ). x.0) both);
      whole = first ∙ ap (λ (t : List ℕ). 91 ∷ t) (front_and_rest is_digit digits
          ∙ ap (λ (t : List ℕ). front ++ t) bracket);
    }

pub processor_taken : (s : List ℕ) (value : ℕ) (rest : List ℕ) → processor_at s ≡ Some (value, rest)
    → TakesProcessor s value rest
unfolding processor_at
processor_taken s value rest e =
    bind_elim (after_text (codes "[") s) _ (value, rest) e (λ digits open_bracket e.
    bind_elim _ _ (value, rest) e (λ left found e.
    processor_from s digits left value rest (text_taken (codes "[") s digits open_bracket) found e))
