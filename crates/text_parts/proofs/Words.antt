-- A word is a time where nothing is left behind the time at its front.
use Rattle.std.proofs.Common.{◌≡◌, ℕ, ◌==◌, true, false, List, [], ◌++◌, length, min, Some, None, sym, ap, subst, ◌∙◌}
use Rattle.std.proofs.lemmas.Bool.{eqb-true, eqb-false}
use Rattle.std.proofs.lemmas.List.{append-nil, nil_from_length}
use Rattle.std.proofs.lemmas.Option.{same_Some}
use Rattle.text_parts.specs.Numerals.{many}
use Rattle.text_parts.specs.Time.{IsTime}
use Rattle.text_parts.specs.Reading.{time_at}
use Rattle.text_parts.proofs.Times.{time_again, time_taken}

nothing_left : (s : List ℕ) → (length s == 0) ≡ true → s ≡ []
nothing_left s e = nil_from_length s (eqb-true (length s) 0 e)

pub time_word : (w : List ℕ) (seconds nanoseconds : ℕ) → IsTime w seconds nanoseconds →
    time_at w ≡ Some (min seconds many, nanoseconds, [])
time_word w seconds nanoseconds time = rw append-nil at (time_again w seconds nanoseconds [] time tt)

pub time_from_word : (w : List ℕ) (seconds nanoseconds : ℕ) (rest : List ℕ) →
    time_at w ≡ Some (seconds, nanoseconds, rest) → (length rest == 0) ≡ true →
    (exact : ℕ) × IsTime w exact nanoseconds × (seconds ≡ min exact many)
time_from_word w seconds nanoseconds rest e end =
    let t = time_taken w seconds nanoseconds rest e in
    let whole : t.time ≡ w = sym (t.whole ∙ ap (λ (s : List ℕ). t.time ++ s) (nothing_left rest end)
    ∙ append-nil t.time) in
    (t.exact_seconds, subst (λ s. IsTime s t.exact_seconds nanoseconds) whole t.form, t.seconds_are)

-- a word is one time at most
pub one_time : (w : List ℕ) (seconds nanoseconds : ℕ) (rest : List ℕ) → time_at w ≡ Some (seconds, nanoseconds, rest) →
    (s n : ℕ) → IsTime w s n → (seconds ≡ min s many) × (nanoseconds ≡ n)
one_time w seconds nanoseconds rest e s n time =
    let both = same_Some (seconds, nanoseconds, rest) (min s many, n, []) (sym e ∙ time_word w s n time) in
    (ap (λ (x : ℕ × ℕ × List ℕ). x.0) both, ap (λ (x : ℕ × ℕ × List ℕ). x.1) both)

pub no_time : (w : List ℕ) → time_at w ≡ None → (s n : ℕ) → IsTime w s n → ⊥
no_time w e s n time = let f = time_word w s n time in cc

pub no_time_word : (w : List ℕ) (seconds nanoseconds : ℕ) (rest : List ℕ) →
    time_at w ≡ Some (seconds, nanoseconds, rest) → (length rest == 0) ≡ false → (s n : ℕ) → IsTime w s n → ⊥
no_time_word w seconds nanoseconds rest e more s n time =
    let both = same_Some (seconds, nanoseconds, rest) (min s many, n, []) (sym e ∙ time_word w s n time) in
    let end : rest ≡ [] = ap (λ (x : ℕ × ℕ × List ℕ). x.2) both in
    eqb-false (length rest) 0 more (ap length end)
