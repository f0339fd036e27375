-- A run of bytes, with what follows it: what was taken from the front of a text is so, and what is so is taken.
use Rattle.std.proofs.Common.{◌≡◌, ℕ, ◌<◌, ◌≤◌, Bool, false, eqb, List, [], ◌∷◌, ◌++◌, length, take, drop, Some}
use Rattle.std.proofs.Common.{None, refl, sym, ap, ◌∙◌, arith, inl, inr}
use Rattle.std.specs.List.{prefix_len}
use Rattle.std.proofs.lemmas.Bool.{eqb-false, ne_eqb}
use Rattle.std.proofs.lemmas.Option.{some_pair_parts}
use Rattle.std.proofs.lemmas.List.Folds.{length-prefix_len}
use Rattle.std.proofs.lemmas.List.{take_at, drop_at, take-append-drop}
use Rattle.text_parts.specs.Numerals.{is_digit}
use Rattle.text_parts.specs.Pieces.{IsRunOf}
use Rattle.sched_event.specs.Reading.{run_at}
use Rattle.text_parts.proofs.Runs.{Stops, run_passes, prefix_len-run}
use Rattle.sched_event.proofs.KeyIndices.{chosen}

-- what was taken as a run
pub record TakesRun (test : ℕ → Bool) (text front rest : List ℕ) : Type 0 where
  pub run : IsRunOf test front
  pub parts : text ≡ front ++ rest

pub run_at_takes : (test : ℕ → Bool) (text front rest : List ℕ) → run_at test text ≡ Some (front, rest)
    → TakesRun test text front rest
unfolding run_at
run_at_takes test text front rest e =
    elim (chosen (eqb (prefix_len test text) 0) None
    (Some (take (prefix_len test text) text, drop (prefix_len test text) text)) (Some (front, rest)) e) [
      | inl none ↦ absurd cc
      | inr found ↦
          let parts = some_pair_parts (take (prefix_len test text) text) front (drop (prefix_len test text) text) rest
          found.1 in
          let long : length front ≡ prefix_len test text = ap length (sym parts.0) ∙ length-prefix_len test text in
          let some : 0 < length front = omega (arith, eqb-false (prefix_len test text) 0 found.0) in
          record {
            run = record { some = some; all = rw (← parts.0) (run_passes test text) };
            parts = sym (take-append-drop (prefix_len test text) text) ∙ rw (parts.0, parts.1) refl;
          }
    ]

pub run_at_again : (test : ℕ → Bool) (front rest : List ℕ) → IsRunOf test front → Stops test rest
    → run_at test (front ++ rest) ≡ Some (front, rest)
unfolding run_at
run_at_again test front rest run stops =
    let count : prefix_len test (front ++ rest) ≡ length front = prefix_len-run test front rest run.all stops in
    let some : eqb (length front) 0 ≡ false = ne_eqb (length front) 0 (λ z. absurd (omega (arith, run.some))) in
    rw (count, some, take_at front rest (length front) refl, drop_at front rest (length front) refl) refl
