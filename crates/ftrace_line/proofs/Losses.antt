-- Lines of lost events, both ways. The two forms differ behind ` [LOST `, where one has a digit.
use Rattle.std.proofs.Common.{◌≡◌, ℕ, true, false, eqb, leb, List, [], ◌∷◌, ◌++◌, Option, Some, None, refl, ap, ◌∙◌}
use Rattle.std.proofs.Common.{inl, inr, arith, codes}
use Rattle.std.specs.List.{list_all}
use Rattle.std.proofs.lemmas.Bool.{and_parts, leb-true, ne_eqb}
use Rattle.text_parts.specs.Numerals.{is_digit, IsNumeral}
use Rattle.ftrace_line.specs.Line.{IsLoss, IsLost}
use Rattle.text_parts.specs.Reading.{or_else, after_text, after_run}
use Rattle.ftrace_line.specs.Meaning.{after_count, after_loss, is_end}
use Rattle.text_parts.proofs.Runs.{Stops, run_again, run_taken, text_taken, text_again, bind_elim}

pub end_is : (r : Option (List ℕ)) → is_end r ≡ true → r ≡ Some []
end_is None e = absurd cc
end_is (Some []) e = refl
end_is (Some (b ∷ s)) e = absurd cc

count_again : (number : List ℕ) → IsNumeral number
    → after_count (codes " [LOST " ++ (number ++ codes " EVENTS]")) ≡ Some []
unfolding after_count
count_again number numeral =
    rw (
      text_again (codes " [LOST ") (number ++ codes " EVENTS]"),
      run_again is_digit number
          (codes " EVENTS]") numeral refl,
      text_again (codes " EVENTS]") [],
    ) refl

-- the form without a number ends where the other has a digit
no_events_at_digit : (number s : List ℕ) → IsNumeral number →
    after_text (codes " [LOST EVENTS]") (codes " [LOST " ++ (number ++ s)) ≡ None
unfolding after_text
no_events_at_digit [] s numeral = absurd (omega (arith, numeral.some))
no_events_at_digit (b ∷ number) s numeral =
    let p = and_parts (is_digit b) (list_all is_digit number) numeral.all in
    let other : eqb b 69 ≡ false = ne_eqb b 69
    (λ same. omega (arith, leb-true b 57 (and_parts (leb 48 b) (leb b 57) p.0).1)) in
    rw other refl

loss_stops : (loss : List ℕ) → IsLoss loss → Stops is_digit loss
loss_stops loss (inl plain) = rw plain refl
loss_stops loss (inr (number, numeral, whole)) = rw whole refl

loss_again : (loss : List ℕ) → IsLoss loss
    → or_else (after_text (codes " [LOST EVENTS]") loss) (after_count loss) ≡ Some []
loss_again loss (inl plain) = rw (plain, text_again (codes " [LOST EVENTS]") []) refl
loss_again loss (inr (number, numeral, whole)) =
    rw (whole, no_events_at_digit number (codes " EVENTS]") numeral, count_again number numeral) refl

-- a line of lost events is read to its end
pub lost_again : (line : List ℕ) → IsLost line → is_end (after_loss line) ≡ true
unfolding after_loss
lost_again line l =
    rw (
      l.whole,
      text_again (codes "CPU:") (l.processor
          ++ l.loss),
      run_again is_digit l.processor l.loss l.processor_form
          (loss_stops l.loss l.loss_form),
      loss_again l.loss l.loss_form,
    ) refl

count_from : (text digits words : List ℕ) →
    text ≡ codes " [LOST " ++ digits → (number : List ℕ) × IsNumeral number × (digits ≡ number ++ words)
    → words ≡ codes " EVENTS]" →
    IsLoss text
count_from text digits words front (number, numeral, behind) end =
    inr (
      number,
      numeral,
      front ∙ ap (λ (r : List ℕ). codes " [LOST " ++ r) (behind
          ∙ ap (λ (r : List ℕ). number ++ r) end),
    )

count_taken : (text : List ℕ) → after_count text ≡ Some [] → IsLoss text
unfolding after_count
count_taken text e =
    bind_elim (after_text (codes " [LOST ") text) _ [] e (λ digits front e.
    bind_elim (after_run is_digit digits) _ [] e (λ words number e.
    count_from text digits words (text_taken (codes " [LOST ") text digits front)
    (run_taken is_digit digits words number) (text_taken (codes " EVENTS]") words [] e)))

loss_from : (loss : List ℕ) (r : Option (List ℕ)) → (r ≡ Some [] → IsLoss loss) →
    or_else r (after_count loss) ≡ Some [] → IsLoss loss
loss_from loss (Some x) plain e = plain e
loss_from loss None plain e = count_taken loss e

lost_from : (line processor loss : List ℕ) → line ≡ codes "CPU:" ++ processor →
    (digits : List ℕ) × IsNumeral digits × (processor ≡ digits ++ loss) → IsLoss loss → IsLost line
lost_from line processor loss front (digits, numeral, behind) form =
    record {
      processor = digits;
      processor_form = numeral;
      loss = loss;
      loss_form = form;
      whole = front
          ∙ ap (λ (r : List ℕ). codes "CPU:" ++ r) behind;
    }

-- a line that is read to its end is one of lost events
pub lost_taken : (line : List ℕ) → after_loss line ≡ Some [] → IsLost line
unfolding after_loss
lost_taken line e =
    bind_elim (after_text (codes "CPU:") line) _ [] e (λ processor front e.
    bind_elim (after_run is_digit processor) _ [] e (λ loss number e.
    lost_from line processor loss (text_taken (codes "CPU:") line processor front)
    (run_taken is_digit processor loss number)
    (loss_from loss (after_text (codes " [LOST EVENTS]") loss)
    (λ e. inl (text_taken (codes " [LOST EVENTS]") loss [] e)) e)))
