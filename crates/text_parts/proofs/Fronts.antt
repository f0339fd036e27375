-- Bytes at the front of a text, compared one by one: they stand there where all are the same.
use Rattle.std.proofs.Common.{◌≡◌, ℕ, zero, suc, ◌+◌, ◌<◌, Bool, true, false, eqb, List, [], ◌∷◌, ◌++◌, length, take}
use Rattle.std.proofs.Common.{drop, get_or, Some, None, refl, sym, ap, ◌∙◌, arith}
use Rattle.std.specs.Prelude.{bytes_eq, ◌&&◌}
use Rattle.std.proofs.lemmas.Bool.{false_from_ne_true, false≢true}
use Rattle.std.proofs.lemmas.List.{take_at, take-append-drop, take-append-le}
use Rattle.std.proofs.lemmas.Slice.Eq.{bytes_eq-Decides}
use Rattle.text_parts.specs.Pieces.{begins_with}
use Rattle.text_parts.specs.Reading.{after_text}
use Rattle.text_parts.proofs.Runs.{no_text, text_again}

-- what follows the bytes that a text begins with
pub front_then_rest : (front s : List ℕ) → begins_with front s ≡ true → s ≡ front ++ drop (length front) s
front_then_rest front s e =
    let there : take (length front) s ≡ front = (bytes_eq-Decides (take (length front) s) front).0 e in
    sym (take-append-drop (length front) s) ∙ ap (λ (t : List ℕ). t ++ drop (length front) s) there

-- a text begins with its own front
pub begins_own : (front rest : List ℕ) → begins_with front (front ++ rest) ≡ true
begins_own front rest = rw (take_at front rest (length front) refl) ((bytes_eq-Decides front front).1 refl)

pub front_there : (front s : List ℕ) → begins_with front s ≡ true → after_text front s ≡ Some (drop (length front) s)
front_there front s e =
    ap (after_text front) (front_then_rest front s e) ∙ text_again front (drop (length front) s)

pub front_missing : (front s : List ℕ) → begins_with front s ≡ false → after_text front s ≡ None
front_missing front s e =
    no_text front s (λ rest whole. let there = begins_own front rest in let same = ap (begins_with front) whole in cc)

-- a text that differs so far from its front doesn't begin with it
pub differs_so_far : (front s : List ℕ) (index : ℕ) → index < length front
    → bytes_eq (take index s) (take index front) ≡ false → begins_with front s ≡ false
differs_so_far front s index within e =
    false_from_ne_true (begins_with front s) (λ all.
    let cut : take index s ≡ take index front =
    ap (take index) (front_then_rest front s all) ∙ take-append-le index front (drop (length front) s) (omega arith) in
    let same : bytes_eq (take index s) (take index front) ≡ true =
    (bytes_eq-Decides (take index s) (take index front)).1 cut in
    false≢true (sym e ∙ same))

-- one more byte
pub same_more : (xs ys : List ℕ) (index : ℕ) → index < length xs → index < length ys →
    bytes_eq (take (index + 1) xs) (take (index + 1) ys)
    ≡ (bytes_eq (take index xs) (take index ys) && eqb (get_or xs index 0) (get_or ys index 0))
same_more [] ys index lt lu = absurd (omega arith)
same_more (x ∷ xs) [] index lt lu = absurd (omega arith)
same_more (x ∷ xs) (y ∷ ys) zero lt lu = by_test (eqb x y)
  where
    by_test : (b : Bool) → (b && true) ≡ (true && b)
    by_test true = refl
    by_test false = refl
same_more (x ∷ xs) (y ∷ ys) (suc index) lt lu =
    let up : suc index + 1 ≡ suc (index + 1) = omega arith in
    rw (up, same_more xs ys index (omega arith) (omega arith))
    (by_test (eqb x y) (bytes_eq (take index xs) (take index ys)) (eqb (get_or xs index 0) (get_or ys index 0)))
  where
    by_test : (a b c : Bool) → (a && (b && c)) ≡ ((a && b) && c)
    by_test true b c = refl
    by_test false b c = refl
