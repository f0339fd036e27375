-- The time in a head, behind a word of flags or not, both ways. The word in front of a time's colon holds no space, and
-- a word of flags ends at one: so a text does not begin both with a time and its colon and with flags and a space.
use Rattle.std.proofs.Common.{◌≡◌, ℕ, true, false, eqb, leb, List, [], ◌∷◌, ◌++◌, length, min, Option, Some, None, refl}
use Rattle.std.proofs.Common.{sym, ap, subst, ◌∙◌, inl, inr, arith, append_assoc, codes}
use Rattle.std.specs.Prelude.{IsTrue}
use Rattle.std.specs.List.{list_all}
use Rattle.std.proofs.lemmas.Bool.{and_parts, and_from, leb-true, eqb-true, ne_eqb}
use Rattle.std.proofs.lemmas.List.{length-append}
use Rattle.std.proofs.lemmas.Option.{same_Some}
use Rattle.text_parts.specs.Numerals.{is_digit, many}
use Rattle.text_parts.specs.Pieces.{IsRunOf, is_space, IsGap}
use Rattle.text_parts.specs.Time.{IsTime}
use Rattle.ftrace_line.specs.Head.{is_flag, IsFlags}
use Rattle.text_parts.specs.Reading.{or_else, after_text, after_run, time_at}
use Rattle.ftrace_line.specs.Meaning.{stamp_at, flagged_stamp_at}
use Rattle.text_parts.proofs.Runs.{Stops, stops_at_run, run_again, run_taken, text_taken, text_again, bind_elim}
use Rattle.text_parts.proofs.Runs.{none_from}
use Rattle.text_parts.proofs.Times.{time_again, time_taken, TakesTime}
use Rattle.ftrace_line.proofs.HeadParts.{digit_is_no_space, flag_is_no_space}

-- ---- a time and its colon

pub stamp_again : (time : List ℕ) (seconds nanoseconds : ℕ) (text : List ℕ) → IsTime time seconds nanoseconds →
    stamp_at (time ++ (58 ∷ 32 ∷ text)) ≡ Some (min seconds many, nanoseconds, text)
unfolding stamp_at
stamp_again time seconds nanoseconds text t =
    rw (time_again time seconds nanoseconds (58 ∷ 32 ∷ text) t refl, text_again (codes ": ") text) refl

abbrev stamp_found : ℕ → ℕ → List ℕ → Option (ℕ × ℕ × List ℕ)
stamp_found seconds nanoseconds text = Some (seconds, nanoseconds, text)

stamp_from : (s : List ℕ) (x : ℕ × ℕ × List ℕ) (seconds nanoseconds : ℕ) (left text : List ℕ) →
    TakesTime s x.0 x.1 x.2 → x.2 ≡ 58 ∷ 32 ∷ left → stamp_found x.0 x.1 left ≡ stamp_found seconds nanoseconds text →
    TakesTime s seconds nanoseconds (58 ∷ 32 ∷ text)
stamp_from s x seconds nanoseconds left text t colon e =
    subst (λ (y : ℕ × ℕ × List ℕ). TakesTime s y.0 y.1 (58 ∷ 32 ∷ y.2))
    (same_Some (x.0, x.1, left) (seconds, nanoseconds, text) e)
    (subst (λ (r : List ℕ). TakesTime s x.0 x.1 r) colon t)

pub stamp_taken : (s : List ℕ) (seconds nanoseconds : ℕ) (text : List ℕ) →
    stamp_at s ≡ Some (seconds, nanoseconds, text) → TakesTime s seconds nanoseconds (58 ∷ 32 ∷ text)
unfolding stamp_at
stamp_taken s seconds nanoseconds text e =
    bind_elim (time_at s) _ (seconds, nanoseconds, text) e (λ x time e.
    bind_elim (after_text (codes ": ") x.2) _ (seconds, nanoseconds, text) e (λ left colon e.
    stamp_from s x seconds nanoseconds left text (time_taken s x.0 x.1 x.2 time)
    (text_taken (codes ": ") x.2 left colon) e))

-- ---- the bytes of a time may all stand in a word of flags

digit_is_flag : (b : ℕ) → is_digit b ≡ true → is_flag b ≡ true
digit_is_flag b e =
    let p = and_parts (leb 48 b) (leb b 57) e in
    let no_colon : eqb b 58 ≡ false = ne_eqb b 58 (λ same. omega (arith, leb-true b 57 p.1)) in
    rw (digit_is_no_space b e, no_colon) refl

pub flags_of_digits : (s : List ℕ) → IsTrue (list_all is_digit s) → IsTrue (list_all is_flag s)
flags_of_digits [] all = refl
flags_of_digits (b ∷ s) all =
    let p = and_parts (is_digit b) (list_all is_digit s) all in
    and_from (is_flag b) (list_all is_flag s) (digit_is_flag b p.0) (flags_of_digits s p.1)

all_joined : (s t : List ℕ) → IsTrue (list_all is_flag s) → IsTrue (list_all is_flag t)
    → IsTrue (list_all is_flag (s ++ t))
all_joined [] t a b = b
all_joined (x ∷ s) t a b =
    let p = and_parts (is_flag x) (list_all is_flag s) a in
    and_from (is_flag x) (list_all is_flag (s ++ t)) p.0 (all_joined s t p.1 b)

time_is_flags : (time : List ℕ) (seconds nanoseconds : ℕ) → IsTime time seconds nanoseconds → IsRunOf is_flag time
time_is_flags time seconds nanoseconds t =
    let all : IsTrue (list_all is_flag (t.whole_digits ++ (46 ∷ t.fraction_digits))) =
    all_joined t.whole_digits (46 ∷ t.fraction_digits) (flags_of_digits t.whole_digits t.whole_numeral.all)
    (flags_of_digits t.fraction_digits t.fraction_numeral.all) in
    record {
      some = omega (arith, ap length t.whole, length-append t.whole_digits (46 ∷ t.fraction_digits));
      all = subst (λ (s : List ℕ). IsTrue (list_all is_flag s)) (sym t.whole) all;
    }

gap_is_no_colon : (gap s t : List ℕ) → IsGap gap → 58 ∷ s ≡ gap ++ t → ⊥
gap_is_no_colon [] s t form e = omega (arith, form.some)
gap_is_no_colon (b ∷ gap) s t form e =
    let space : b ≡ 32 = eqb-true b 32 (and_parts (is_space b) (list_all is_space gap) form.all).0 in
    let colon : 58 ≡ b = cc in
    omega arith

-- flags and a gap in front: no time stands there with its colon
no_stamp_at_flags : (flags gap s : List ℕ) → IsRunOf is_flag flags → IsGap gap → stamp_at (flags ++ (gap ++ s)) ≡ None
no_stamp_at_flags flags gap s run space =
    none_from (stamp_at (flags ++ (gap ++ s))) (λ x e.
    let t = stamp_taken (flags ++ (gap ++ s)) x.0 x.1 x.2 e in
    let by_flags : after_run is_flag (flags ++ (gap ++ s)) ≡ Some (gap ++ s) =
    run_again is_flag flags (gap ++ s) run (stops_at_run is_flag is_space gap s space (λ b e. rw e refl)) in
    let by_time : after_run is_flag (t.time ++ (58 ∷ 32 ∷ x.2)) ≡ Some (58 ∷ 32 ∷ x.2) =
    run_again is_flag t.time (58 ∷ 32 ∷ x.2) (time_is_flags t.time t.exact_seconds x.1 t.form) refl in
    let both : Some (58 ∷ 32 ∷ x.2) ≡ Some (gap ++ s) = sym by_time ∙ ap (after_run is_flag) (sym t.whole) ∙ by_flags in
    gap_is_no_colon gap (32 ∷ x.2) s space (same_Some (58 ∷ 32 ∷ x.2) (gap ++ s) both))

-- ---- the time behind flags or not

pub clock_stops : (flags time : List ℕ) (seconds nanoseconds : ℕ) (s : List ℕ) → IsFlags flags →
    IsTime time seconds nanoseconds → Stops is_space (flags ++ (time ++ s))
clock_stops flags time seconds nanoseconds s (inl none) t =
    rw none (stops_at_run is_space is_flag time s (time_is_flags time seconds nanoseconds t) flag_is_no_space)
clock_stops flags time seconds nanoseconds s (inr (w, gap, run, space, whole)) t =
    rw (whole, append_assoc w gap (time ++ s))
    (stops_at_run is_space is_flag w (gap ++ (time ++ s)) run flag_is_no_space)

pub clock_again : (flags time : List ℕ) (seconds nanoseconds : ℕ) (text : List ℕ) → IsFlags flags →
    IsTime time seconds nanoseconds →
    or_else (stamp_at (flags ++ (time ++ (58 ∷ 32 ∷ text))))
    (flagged_stamp_at (flags ++ (time ++ (58 ∷ 32 ∷ text)))) ≡ Some (min seconds many, nanoseconds, text)
unfolding flagged_stamp_at
clock_again flags time seconds nanoseconds text (inl none) t =
    rw (none, stamp_again time seconds nanoseconds text t) refl
clock_again flags time seconds nanoseconds text (inr (w, gap, run, space, whole)) t =
    let stamp : List ℕ = time ++ (58 ∷ 32 ∷ text) in
    let regrouped : flags ++ stamp ≡ w ++ (gap ++ stamp) = ap (λ (f : List ℕ). f ++ stamp) whole
    ∙ append_assoc w gap stamp in
    rw (
      regrouped,
      no_stamp_at_flags w gap stamp run space,
      run_again is_flag w (gap
          ++ stamp) run (stops_at_run is_flag is_space gap stamp space (λ b e. rw e refl)),
      run_again is_space gap stamp
          space (stops_at_run is_space is_flag time (58 ∷ 32 ∷ text)
          (time_is_flags time seconds nanoseconds t) flag_is_no_space),
      stamp_again time seconds nanoseconds text t,
    ) refl

-- flags, if any, and a time were taken from the front of s, with the colon and the space behind it
pub record TakesClock (s : List ℕ) (seconds nanoseconds : ℕ) (text : List ℕ) : Type 0 where
  pub flags : List ℕ
  pub flags_form : IsFlags flags
  pub time : List ℕ
  pub exact_seconds : ℕ
  pub form : IsTime time exact_seconds nanoseconds
  pub seconds_are : seconds ≡ min exact_seconds many
  pub whole : s ≡ flags ++ (time ++ (58 ∷ 32 ∷ text))

clock_from_stamp : (s : List ℕ) (seconds nanoseconds : ℕ) (text : List ℕ) →
    TakesTime s seconds nanoseconds (58 ∷ 32 ∷ text) → TakesClock s seconds nanoseconds text
clock_from_stamp s seconds nanoseconds text t =
    record {
      flags = [];
      flags_form = inl refl;
      time = t.time;
      exact_seconds = t.exact_seconds;
      form =
          t.form;
      seconds_are = t.seconds_are;
      whole = t.whole;
    }

clock_from_flags : (s gap stamp : List ℕ) (seconds nanoseconds : ℕ) (text : List ℕ) →
    (w : List ℕ) × IsRunOf is_flag w × (s ≡ w ++ gap) → (v : List ℕ) × IsGap v × (gap ≡ v ++ stamp) →
    TakesTime stamp seconds nanoseconds (58 ∷ 32 ∷ text) → TakesClock s seconds nanoseconds text
clock_from_flags s gap stamp seconds nanoseconds text (w, run, front) (v, space, behind) t =
    record {
      flags = w ++ v;
      flags_form = inr (w, v, run, space, refl);
      time = t.time;
      exact_seconds = t.exact_seconds;
      form = t.form;
      seconds_are = t.seconds_are;
      whole = front ∙ ap (λ (r : List ℕ). w ++ r) (behind ∙ ap (λ (r : List ℕ). v ++ r) t.whole)
          ∙ sym (append_assoc w v (t.time ++ (58 ∷ 32 ∷ text)));
    }

flagged_taken : (s : List ℕ) (seconds nanoseconds : ℕ) (text : List ℕ) →
    flagged_stamp_at s ≡ Some (seconds, nanoseconds, text) → TakesClock s seconds nanoseconds text
unfolding flagged_stamp_at
flagged_taken s seconds nanoseconds text e =
    bind_elim (after_run is_flag s) _ (seconds, nanoseconds, text) e (λ gap flags e.
    bind_elim (after_run is_space gap) _ (seconds, nanoseconds, text) e (λ stamp space e.
    clock_from_flags s gap stamp seconds nanoseconds text (run_taken is_flag s gap flags)
    (run_taken is_space gap stamp space) (stamp_taken stamp seconds nanoseconds text e)))

clock_from : (s : List ℕ) (x : ℕ × ℕ × List ℕ) (r : Option (ℕ × ℕ × List ℕ)) →
    (r ≡ Some x → TakesTime s x.0 x.1 (58 ∷ 32 ∷ x.2)) → (flagged_stamp_at s ≡ Some x → TakesClock s x.0 x.1 x.2) →
    or_else r (flagged_stamp_at s) ≡ Some x → TakesClock s x.0 x.1 x.2
clock_from s x (Some y) plain flagged e = clock_from_stamp s x.0 x.1 x.2 (plain e)
clock_from s x None plain flagged e = flagged e

pub clock_taken : (s : List ℕ) (x : ℕ × ℕ × List ℕ) → or_else (stamp_at s) (flagged_stamp_at s) ≡ Some x →
    TakesClock s x.0 x.1 x.2
clock_taken s x e = clock_from s x (stamp_at s) (stamp_taken s x.0 x.1 x.2) (flagged_taken s x.0 x.1 x.2) e
