-- What is remembered of a line up to its seconds, both ways: bytes that were read so stand for their seconds in front
-- of any text, and the bytes before what follows the seconds are read so.
use Rattle.std.proofs.Common.{◌≡◌, ℕ, ◌<◌, ◌≤◌, ◌-◌, ◌%◌, List, [], ◌∷◌, ◌++◌, length, take, drop, get_or}
use Rattle.std.proofs.Common.{min, Option, Some, None, refl, sym, ap, subst, ◌∙◌, inl, inr, arith, append_assoc}
use Rattle.std.proofs.Common.{bit_and}
use Rattle.std.specs.List.{list_any, take_while}
use Rattle.std.proofs.lemmas.Bool.{or_parts}
use Rattle.std.proofs.lemmas.List.{append-nil, ext_get_or, get_or-take, length-take-le, length-append, take_at}
use Rattle.std.proofs.lemmas.List.{take-append-drop, take_rest}
use Rattle.std.proofs.lemmas.Nat.{and_mask}
use Rattle.std.proofs.lemmas.List.Folds.{list_any-append}
use Rattle.std.proofs.lemmas.Option.{same_Some}
use Rattle.text_parts.specs.Lines.{is_line_feed}
use Rattle.text_parts.specs.Numerals.{is_digit, value_of, many, IsNumeral}
use Rattle.text_parts.specs.Pieces.{is_space, IsGap}
use Rattle.text_parts.specs.Reading.{or_else, after_run, numeral_at}
use Rattle.text_parts.specs.Unbroken.{IsUnbroken}
use Rattle.text_parts.proofs.Runs.{Stops, stops_at_run, run_again, run_taken, bind_elim, at_end_taken}
use Rattle.text_parts.proofs.Runs.{numeral_again, numeral_taken, TakesNumeral}
use Rattle.text_parts.proofs.Unbroken.{unbroken_append}
use Rattle.ftrace_line.specs.Head.{is_flag, IsFlags}
use Rattle.ftrace_line.specs.Clock.{HasFlags, HasSeconds, after_flags, seconds_in}
use Rattle.ftrace_line.proofs.HeadParts.{digit_is_no_space, flag_is_no_space}
use Rattle.ftrace_line.proofs.Clocks.{flags_of_digits}
use Rattle.ftrace_line.proofs.Fronts.{digits_unbroken, gap_unbroken}

-- ---- fronts that are the same

pub fronts_same : (xs ys : List ℕ) (n : ℕ) → n ≤ length xs → n ≤ length ys
    → ((k : ℕ) → k < n → get_or xs k 0 ≡ get_or ys k 0) → take n xs ≡ take n ys
fronts_same xs ys n long wide same =
    let front : length (take n xs) ≡ n = length-take-le n xs long in
    ext_get_or 0 (take n xs) (take n ys) (front ∙ sym (length-take-le n ys wide)) (λ k lt.
    get_or-take n xs k 0 (omega (arith, lt, front)) ∙ same k (omega (arith, lt, front))
    ∙ sym (get_or-take n ys k 0 (omega (arith, lt, front))))

-- a byte is what is left of it by a mask of all bits
pub by_full_mask : (byte mask : ℕ) → byte < 256 → mask ≡ 255 → bit_and byte mask ≡ byte
by_full_mask byte mask fits full =
    let left : bit_and byte 255 ≡ byte % 256 = and_mask byte 8 in
    ap (bit_and byte) full ∙ left ∙ omega (arith, fits)

-- ---- bytes that were read stand for their seconds

parts_unbroken : (s t : List ℕ) → IsUnbroken (s ++ t) → IsUnbroken s × IsUnbroken t
parts_unbroken s t unbroken =
    or_parts (list_any is_line_feed s) (list_any is_line_feed t) (sym (list_any-append is_line_feed s t) ∙ unbroken)

flags_behind : (clock stamp : List ℕ) → after_flags clock ≡ Some stamp
    → (flags : List ℕ) × IsFlags flags × (clock ≡ flags ++ stamp)
unfolding after_flags
flags_behind clock stamp e =
    bind_elim (after_run is_flag clock) _ stamp e (λ gap run space.
    let word = run_taken is_flag clock gap run in
    let wide = run_taken is_space gap stamp space in (
      word.0 ++ wide.0,
      inr (word.0, wide.0, word.1, wide.1, refl),
      word.2 ∙ ap (λ (t : List ℕ). word.0 ++ t) wide.2 ∙ sym (append_assoc word.0 wide.0 stamp),
    ))

flags_from : (clock stamp : List ℕ) (found : Option (List ℕ))
    → (found ≡ Some stamp → (flags : List ℕ) × IsFlags flags × (clock ≡ flags ++ stamp))
    → or_else found (Some clock) ≡ Some stamp → (flags : List ℕ) × IsFlags flags × (clock ≡ flags ++ stamp)
flags_from clock stamp (Some found) behind e = behind e
flags_from clock stamp None behind e = ([], inl refl, same_Some clock stamp e)

seconds_parts : (front clock stamp text rest : List ℕ) (seconds value : ℕ) (left : List ℕ)
    → text ≡ front ++ rest → IsUnbroken front → (gap : List ℕ) × IsGap gap × (front ≡ gap ++ clock)
    → (flags : List ℕ) × IsFlags flags × (clock ≡ flags ++ stamp) → TakesNumeral stamp value left
    → (left ≡ []) × (value ≡ seconds) → HasSeconds text seconds rest
seconds_parts front clock stamp text rest seconds value left parts unbroken (gap, space, before) (flags, form, behind)
    takes (none, same) =
    let digits : List ℕ = take_while is_digit stamp in
    let whole : stamp ≡ digits = takes.whole ∙ ap (λ (t : List ℕ). digits ++ t) none ∙ append-nil digits in
    let front_is : front ≡ gap ++ (flags ++ digits) =
    before ∙ ap (λ (t : List ℕ). gap ++ t) (behind ∙ ap (λ (t : List ℕ). flags ++ t) whole) in
    let clock_unbroken = (parts_unbroken gap (flags ++ digits) (subst IsUnbroken front_is unbroken)).1 in
    record {
      gap = gap;
      gap_form = space;
      flags = flags;
      flags_form = form;
      unbroken = (parts_unbroken flags digits clock_unbroken).0;
      digits = digits;
      digits_form = takes.digits_form;
      value_is = sym same ∙ takes.value_is;
      parts = parts ∙ ap (λ (t : List ℕ). t ++ rest) front_is ∙ append_assoc gap (flags ++ digits) rest
          ∙ ap (λ (t : List ℕ). gap ++ t) (append_assoc flags digits rest);
    }

pub seconds_stand : (front text rest : List ℕ) (seconds : ℕ) → text ≡ front ++ rest → IsUnbroken front
    → seconds_in front ≡ Some seconds → HasSeconds text seconds rest
unfolding seconds_in
seconds_stand front text rest seconds parts unbroken e =
    bind_elim (after_run is_space front) _ seconds e (λ clock space e.
    bind_elim (or_else (after_flags clock) (Some clock)) _ seconds e (λ stamp flags e.
    bind_elim (numeral_at stamp) _ seconds e (λ whole numeral e.
    seconds_parts front clock stamp text rest seconds whole.0 whole.1 parts unbroken
    (run_taken is_space front clock space)
    (flags_from clock stamp (after_flags clock) (flags_behind clock stamp) flags)
    (numeral_taken stamp whole.0 whole.1 numeral) (at_end_taken whole.1 whole.0 seconds e))))

-- so do those that a text begins with, where what follows them is cut off there
pub clock_stands : (text bytes : List ℕ) (width seconds : ℕ) → take width text ≡ take width bytes
    → IsUnbroken (take width bytes) → seconds_in (take width bytes) ≡ Some seconds
    → HasSeconds text seconds (take (length text - width) (drop width text))
clock_stands text bytes width seconds front unbroken read =
    let parts : text ≡ take width bytes ++ drop width text =
    sym (take-append-drop width text) ∙ ap (λ (front : List ℕ). front ++ drop width text) front in
    subst (HasSeconds text seconds) (sym (take_rest text width))
    (seconds_stand (take width bytes) text (drop width text) seconds parts unbroken read)

-- a space and a zero
pub zero_read : seconds_in (32 ∷ 48 ∷ []) ≡ Some 0
unfolding seconds_in after_flags after_run numeral_at
zero_read = refl

-- the parts that were read one behind the other
pub seconds_here : (text clock stamp rest : List ℕ) (seconds : ℕ) → (gap : List ℕ) × IsGap gap × (text ≡ gap ++ clock)
    → HasFlags clock stamp → TakesNumeral stamp seconds rest → HasSeconds text seconds rest
seconds_here text clock stamp rest seconds (gap, space, front) flags takes = record {
  gap = gap;
  gap_form = space;
  flags = flags.flags;
  flags_form = flags.form;
  unbroken = flags.unbroken;
  digits = take_while is_digit stamp;
  digits_form = takes.digits_form;
  value_is = takes.value_is;
  parts = front ∙ ap (λ (t : List ℕ). gap ++ t) (flags.parts ∙ ap (λ (t : List ℕ). flags.flags ++ t) takes.whole);
}

-- ---- the bytes before what follows the seconds are read so

digits_stop : (digits : List ℕ) → IsNumeral digits → Stops is_space digits
digits_stop digits form =
    subst (Stops is_space) (append-nil digits) (stops_at_run is_space is_digit digits [] form digit_is_no_space)

flags_stop : (flags digits : List ℕ) → IsFlags flags → IsNumeral digits → Stops is_space (flags ++ digits)
flags_stop flags digits (inl none) form = rw none (digits_stop digits form)
flags_stop flags digits (inr (word, gap, run, space, whole)) form =
    rw (whole, append_assoc word gap digits) (stops_at_run is_space is_flag word (gap ++ digits) run flag_is_no_space)

no_flags_behind : (digits : List ℕ) → IsNumeral digits → after_flags digits ≡ None
unfolding after_flags after_run
no_flags_behind digits form =
    let run : after_run is_flag (digits ++ []) ≡ Some [] =
    run_again is_flag digits [] (record { some = form.some; all = flags_of_digits digits form.all }) tt in
    rw (← append-nil digits, run) refl

stamp_again : (flags digits : List ℕ) → IsFlags flags → IsNumeral digits
    → or_else (after_flags (flags ++ digits)) (Some (flags ++ digits)) ≡ Some digits
unfolding after_flags
stamp_again flags digits (inl none) form = rw (none, no_flags_behind digits form) refl
stamp_again flags digits (inr (word, gap, run, space, whole)) form =
    let regrouped : flags ++ digits ≡ word ++ (gap ++ digits) =
    ap (λ (t : List ℕ). t ++ digits) whole ∙ append_assoc word gap digits in
    rw (
      regrouped,
      run_again is_flag word (gap ++ digits) run (stops_at_run is_flag is_space gap digits space (λ b e. rw e refl)),
      run_again is_space gap digits space (digits_stop digits form),
    ) refl

seconds_read : (gap flags digits : List ℕ) → IsGap gap → IsFlags flags → IsNumeral digits
    → seconds_in (gap ++ (flags ++ digits)) ≡ Some (min (value_of digits) many)
unfolding seconds_in
seconds_read gap flags digits space form numeral =
    let value : numeral_at (digits ++ []) ≡ Some (min (value_of digits) many, []) =
    numeral_again digits [] numeral tt in
    let there : numeral_at digits ≡ Some (min (value_of digits) many, []) =
    subst (λ (t : List ℕ). numeral_at t ≡ Some (min (value_of digits) many, [])) (append-nil digits) value in
    rw (
      run_again is_space gap (flags ++ digits) space (flags_stop flags digits form numeral),
      stamp_again flags digits form numeral,
      there,
    ) refl

pub record IsClock (front : List ℕ) (seconds : ℕ) : Type 0 where
  pub unbroken : IsUnbroken front
  pub read : seconds_in front ≡ Some seconds

pub clock_in_front : (text rest : List ℕ) (seconds : ℕ) → HasSeconds text seconds rest
    → IsClock (take (length text - length rest) text) seconds
clock_in_front text rest seconds has =
    let front : List ℕ = has.gap ++ (has.flags ++ has.digits) in
    let parts : text ≡ front ++ rest = has.parts ∙ sym (append_assoc has.gap (has.flags ++ has.digits) rest
    ∙ ap (λ (t : List ℕ). has.gap ++ t) (append_assoc has.flags has.digits rest)) in
    let width : length text - length rest ≡ length front = omega (arith, ap length parts, length-append front rest) in
    let same : take (length text - length rest) text ≡ front =
    ap (λ n. take n text) width ∙ ap (take (length front)) parts ∙ take_at front rest (length front) refl in
    record {
      unbroken = subst IsUnbroken (sym same) (unbroken_append has.gap (has.flags ++ has.digits)
          (gap_unbroken has.gap has.gap_form)
          (unbroken_append has.flags has.digits has.unbroken (digits_unbroken has.digits has.digits_form)));
      read = ap seconds_in same
          ∙ seconds_read has.gap has.flags has.digits has.gap_form has.flags_form has.digits_form
          ∙ ap Some (sym has.value_is);
    }
