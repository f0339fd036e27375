-- The fields of a text: what was read behind a key is so, and what is so is read.
use Rattle.std.proofs.Common.{◌≡◌, ℕ, ◌+◌, ◌-◌, ◌≤◌, ◌<◌, min, Bool, true, false, cond, eqb, List, [], ◌∷◌, ◌++◌}
use Rattle.std.proofs.Common.{length, take, drop, Some, refl, sym, ap, subst, ◌∙◌, arith}
use Rattle.std.specs.List.{list_all}
use Rattle.std.proofs.lemmas.List.{append-nil, append_assoc, take_at, drop_at, drop-drop, take-append-drop}
use Rattle.std.proofs.lemmas.List.{length-append, length-take}
use Rattle.std.proofs.lemmas.Bool.{eqb-true, and_parts}
use Rattle.std.proofs.lemmas.Bool.Decides.{nat_tests}
use Rattle.std.proofs.lemmas.Option.{some_pair_parts}
use Rattle.text_parts.specs.Numerals.{IsNumeral, is_digit}
use Rattle.text_parts.specs.Pieces.{IsRunOf, begins_with}
use Rattle.sched_event.specs.Texts.{IsName, IsState, is_dark, Prio, prio_text}
use Rattle.text_parts.specs.Reading.{◌>>=◌, after_text}
use Rattle.sched_event.specs.Reading.{run_at, sign_at, last_index, numeral_behind, state_behind, prio_behind}
use Rattle.sched_event.specs.Reading.{name_behind}
use Rattle.sched_event.proofs.KeyIndices.{index_stands, index_is_last}
use Rattle.text_parts.proofs.Fronts.{front_then_rest}
use Rattle.text_parts.proofs.Runs.{text_again, text_taken, Stops, bind_some}
use Rattle.sched_event.proofs.Runs.{run_at_takes, run_at_again}
use Rattle.sched_event.specs.Usual.{IsMiddlePrio}
use Rattle.sched_event.proofs.Alone.{IsAlone}

-- a field was taken from behind a key
pub record IsBehind (key text field rest : List ℕ) : Type 0 where
  pub parts : text ≡ key ++ (field ++ rest)

-- what follows a field, in other words
pub followed_by : {key text field rest other : List ℕ} → IsBehind key text field rest → rest ≡ other
    → text ≡ key ++ (field ++ other)
followed_by {key} {text} {field} {rest} {other} takes e = takes.parts
    ∙ ap (λ (after : List ℕ). key ++ (field ++ after)) e

-- nothing follows the last field
pub ends : {key text field : List ℕ} → IsBehind key text field [] → text ≡ key ++ field
ends {key} {text} {field} takes = takes.parts ∙ ap (λ (after : List ℕ). key ++ after) (append-nil field)

-- ---- runs behind a key

run_behind_takes : (test : ℕ → Bool) (key text front rest : List ℕ)
    → (after_text key text >>= run_at test) ≡ Some (front, rest) → IsRunOf test front × IsBehind key text front rest
run_behind_takes test key text front rest e =
    let after = bind_some (after_text key text) (run_at test) (front, rest) e in
    let run = run_at_takes test after.0 front rest after.2 in
    (run.run, record { parts = text_taken key text after.0 after.1 ∙ ap (λ (x : List ℕ). key ++ x) run.parts })

run_behind_again : (test : ℕ → Bool) (key front rest : List ℕ) → IsRunOf test front → Stops test rest
    → (after_text key (key ++ (front ++ rest)) >>= run_at test) ≡ Some (front, rest)
run_behind_again test key front rest run stops = rw (text_again key (front ++ rest))
    (run_at_again test front rest run stops)

pub numeral_behind_takes : (key text digits rest : List ℕ) → numeral_behind key text ≡ Some (digits, rest)
    → IsNumeral digits × IsBehind key text digits rest
unfolding numeral_behind
numeral_behind_takes key text digits rest e = run_behind_takes is_digit key text digits rest e

pub numeral_behind_again : (key digits rest : List ℕ) → IsNumeral digits → Stops is_digit rest
    → numeral_behind key (key ++ (digits ++ rest)) ≡ Some (digits, rest)
unfolding numeral_behind
numeral_behind_again key digits rest numeral stops = run_behind_again is_digit key digits rest numeral stops

pub state_behind_takes : (key text state rest : List ℕ) → state_behind key text ≡ Some (state, rest)
    → IsState state × IsBehind key text state rest
unfolding state_behind
state_behind_takes key text state rest e = run_behind_takes is_dark key text state rest e

pub state_behind_again : (key state rest : List ℕ) → IsState state → Stops is_dark rest
    → state_behind key (key ++ (state ++ rest)) ≡ Some (state, rest)
unfolding state_behind
state_behind_again key state rest is stops = run_behind_again is_dark key state rest is stops

-- ---- prios

abbrev with_sign : Bool × List ℕ → List ℕ
with_sign signed = cond signed.0 (45 ∷ signed.1) signed.1

-- the sign and what follows it make up the text
sign_text : (text : List ℕ) → text ≡ with_sign (sign_at text)
unfolding sign_at
sign_text [] = refl
sign_text (byte ∷ bytes) = by_test (eqb byte 45) refl
  where
    by_test : (b : Bool) → eqb byte 45 ≡ b → byte ∷ bytes ≡ with_sign
        (cond {A = Bool × List ℕ} b (true, bytes) (false, byte ∷ bytes))
    by_test true e = rw (eqb-true byte 45 e) refl
    by_test false e = refl

-- digits have no sign before them
digit_no_sign : (byte : ℕ) → is_digit byte ≡ true → eqb byte 45 ≡ false
digit_no_sign byte digit = grind (arith, nat_tests)

sign_none : (digits rest : List ℕ) → IsNumeral digits → sign_at (digits ++ rest) ≡ (false, digits ++ rest)
unfolding sign_at
sign_none [] rest numeral = absurd (omega (arith, numeral.some))
sign_none (byte ∷ digits) rest numeral = rw (digit_no_sign byte
    (and_parts (is_digit byte) (list_all is_digit digits) numeral.all).0) refl

-- digits behind a key are a prio with no sign
pub unsigned_prio : (key text digits rest : List ℕ) → numeral_behind key text ≡ Some (digits, rest)
    → prio_behind key text ≡ Some (record { minus = false; digits = digits }, rest)
unfolding numeral_behind prio_behind
unsigned_prio key text digits rest e =
    let after = bind_some (after_text key text) (run_at is_digit) (digits, rest) e in
    let run = run_at_takes is_digit after.0 digits rest after.2 in
    let sign : sign_at after.0 ≡ (false, after.0) =
    subst (λ (s : List ℕ). sign_at s ≡ (false, s)) (sym run.parts) (sign_none digits rest run.run) in
    rw (after.1, sign, after.2) refl

signed_append : (minus : Bool) (digits rest : List ℕ)
    → cond minus (45 ∷ (digits ++ rest)) (digits ++ rest) ≡ prio_text (record { minus = minus; digits = digits })
    ++ rest
signed_append true digits rest = refl
signed_append false digits rest = refl

pub prio_behind_takes : (key text : List ℕ) (prio : Prio) (rest : List ℕ) → prio_behind key text ≡ Some (prio, rest)
    → IsNumeral prio.digits × IsBehind key text (prio_text prio) rest
unfolding prio_behind
prio_behind_takes key text prio rest e =
    let after = bind_some (after_text key text) (λ after. run_at is_digit (sign_at after).1 >>= λ digits. Some
    (record { minus = (sign_at after).0; digits = digits.0 }, digits.1)) (prio, rest) e in
    let minus = (sign_at after.0).0 in
    let digits = bind_some (run_at is_digit (sign_at after.0).1)
    (λ digits. Some (record { minus = minus; digits = digits.0 }, digits.1)) (prio, rest) after.2 in
    let run = run_at_takes is_digit (sign_at after.0).1 digits.0.0 digits.0.1 digits.1 in
    let made : Prio = record { minus = minus; digits = digits.0.0 } in
    let same = some_pair_parts made prio digits.0.1 rest digits.2 in
    let signed : after.0 ≡ prio_text made ++ digits.0.1 = sign_text after.0
    ∙ ap (λ (x : List ℕ). cond minus (45 ∷ x) x) run.parts ∙ signed_append minus digits.0.0 digits.0.1 in
    let whole : text ≡ key ++ (prio_text made ++ digits.0.1) = text_taken key text after.0 after.1
    ∙ ap (λ (x : List ℕ). key ++ x) signed in
    subst (λ (p : Prio). IsNumeral p.digits × IsBehind key text (prio_text p) rest) same.0
    (run.run, record { parts = subst (λ (after : List ℕ). text ≡ key ++ (prio_text made ++ after)) same.1 whole })

signed_again : (key : List ℕ) (minus : Bool) (digits rest : List ℕ) → IsNumeral digits → Stops is_digit rest
    → prio_behind key (key ++ (prio_text (record { minus = minus; digits = digits }) ++ rest)) ≡ Some
    (record { minus = minus; digits = digits }, rest)
unfolding prio_behind sign_at
signed_again key true digits rest numeral stops =
    rw (text_again key (45 ∷ (digits ++ rest)), run_at_again is_digit digits rest numeral stops) refl
signed_again key false digits rest numeral stops =
    rw (text_again key (digits ++ rest), sign_none digits rest numeral, run_at_again is_digit digits rest numeral stops)
    refl

pub prio_behind_again : (key : List ℕ) (prio : Prio) (rest : List ℕ) → IsNumeral prio.digits → Stops is_digit rest
    → prio_behind key (key ++ (prio_text prio ++ rest)) ≡ Some (prio, rest)
prio_behind_again key prio rest numeral stops = signed_again key prio.minus prio.digits rest numeral stops

-- ---- names

pub name_behind_takes : (key next text name rest : List ℕ) → name_behind key next text ≡ Some (name, rest)
    → IsName name × IsBehind key text name rest
unfolding name_behind
name_behind_takes key next text name rest e =
    let after = bind_some (after_text key text) (λ after. last_index (min 15 (length after)) next after >>= λ index.
    Some (take index after, drop index after)) (name, rest) e in
    let index = bind_some (last_index (min 15 (length after.0)) next after.0)
    (λ index. Some (take index after.0, drop index after.0)) (name, rest) after.2 in
    let stands = index_stands (min 15 (length after.0)) next after.0 index.0 index.1 in
    let same = some_pair_parts (take index.0 after.0) name (drop index.0 after.0) rest index.2 in
    let short : length name ≤ 15 = omega (arith, ap length same.0, length-take index.0 after.0, stands.within) in
    let cut : after.0 ≡ name ++ rest = sym (take-append-drop index.0 after.0) ∙ rw (same.0, same.1) refl in
    (short, record { parts = text_taken key text after.0 after.1 ∙ ap (λ (x : List ℕ). key ++ x) cut })

later_is_free : (next name rest : List ℕ) → IsAlone next rest → (later : ℕ) → length name < later
    → later ≤ min 15 (length (name ++ rest))
    → begins_with next (drop later (name ++ rest)) ≡ false
later_is_free next name rest alone later above below =
    let beyond : length name + (later - length name) ≡ later = omega arith in
    let moved : drop later (name ++ rest) ≡ drop (later - length name) rest =
    ap (λ (n : ℕ). drop n (name ++ rest)) (sym beyond)
    ∙ sym (drop-drop (later - length name) (length name) (name ++ rest))
    ∙ rw (drop_at name rest (length name) refl) refl in
    rw moved (alone (later - length name) (omega arith) (omega arith))

pub name_behind_again : (key next name rest : List ℕ) → IsName name → begins_with next rest ≡ true → IsAlone next rest
    → name_behind key next (key ++ (name ++ rest)) ≡ Some (name, rest)
unfolding name_behind
name_behind_again key next name rest short stands alone =
    let within : length name ≤ min 15 (length (name ++ rest)) = omega (arith, length-append name rest) in
    let at_rest : begins_with next (drop (length name) (name ++ rest)) ≡ true =
    rw (drop_at name rest (length name) refl) stands in
    let index = index_is_last (min 15 (length (name ++ rest))) next (name ++ rest) (length name) within at_rest
    (later_is_free next name rest alone) in
    rw (
      text_again key (name ++ rest),
      index,
      take_at name rest (length name) refl,
      drop_at name rest (length name) refl,
    ) refl

-- ---- the last field

pub numeral_last : (key digits : List ℕ) → IsNumeral digits → numeral_behind key (key ++ digits) ≡ Some (digits, [])
numeral_last key digits numeral = ap (λ (text : List ℕ). numeral_behind key (key ++ text)) (sym (append-nil digits))
    ∙ numeral_behind_again key digits [] numeral tt

pub prio_last : (key : List ℕ) (prio : Prio) → IsNumeral prio.digits
    → prio_behind key (key ++ prio_text prio) ≡ Some (prio, [])
prio_last key prio numeral = ap (λ (text : List ℕ). prio_behind key (key ++ text)) (sym (append-nil (prio_text prio)))
    ∙ prio_behind_again key prio [] numeral tt

-- the prio of nice 0 stands behind a key, where a text begins with both and a byte behind them
pub middle_prio_behind : (key middle text : List ℕ) → IsMiddlePrio key middle → begins_with middle text ≡ true
    → (take 3 (drop (length key) text) ≡ 49 ∷ 50 ∷ 48 ∷ [])
    × (numeral_behind key text ≡ Some (take 3 (drop (length key) text), drop 3 (drop (length key) text)))
    × (length key + 3 ≤ length text)
middle_prio_behind key middle text is there =
    let digits : List ℕ = 49 ∷ 50 ∷ 48 ∷ [] in
    let rest : List ℕ = is.end ∷ (is.more ++ drop (length middle) text) in
    let whole : text ≡ key ++ (digits ++ rest) = front_then_rest middle text there
    ∙ ap (λ (front : List ℕ). front ++ drop (length middle) text) is.parts
    ∙ append_assoc key (49 ∷ 50 ∷ 48 ∷ is.end ∷ is.more) (drop (length middle) text) in
    let behind : drop (length key) text ≡ digits ++ rest = ap (drop (length key)) whole
    ∙ drop_at key (digits ++ rest) (length key) refl in (
      ap (take 3) behind,
      ap (numeral_behind key) whole
          ∙ numeral_behind_again key digits rest (record { some = omega arith; all = refl }) is.no_digit
          ∙ rw (ap (take 3) behind, ap (drop 3) behind) refl,
      omega (arith, ap length whole, length-append key (digits ++ rest)),
    )
