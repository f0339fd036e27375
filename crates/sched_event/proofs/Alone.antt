-- Why a name ends where it does: behind it stand words without spaces, each behind one space, of which only the first
-- is the key's, and they reach past fifteen bytes. So no later index within a name's length is the key's.
use Rattle.std.proofs.Common.{◌≡◌, ℕ, zero, suc, ◌+◌, ◌≤◌, ◌<◌, Bool, true, false, eqb, List, [], ◌∷◌, ◌++◌, length}
use Rattle.std.proofs.Common.{drop, refl, arith}
use Rattle.std.specs.Prelude.{not}
use Rattle.std.specs.List.{list_all}
use Rattle.std.proofs.lemmas.Bool.Decides.{nat_tests}
use Rattle.text_parts.specs.Numerals.{is_digit, IsNumeral}
use Rattle.sched_event.specs.Texts.{is_dark, Prio, prio_text}
use Rattle.text_parts.specs.Pieces.{begins_with}
use Rattle.std.proofs.lemmas.Bool.{and_parts}

-- the key stands at none of the first indices of a text
abbrev pub Free : ℕ → List ℕ → List ℕ → Type 0
Free count key text = (index : ℕ) → index < count → begins_with key (drop index text) ≡ false

-- behind its front, a text has the key nowhere within a name's length
abbrev pub IsAlone : List ℕ → List ℕ → Type 0
IsAlone key text = (later : ℕ) → 0 < later → later ≤ 15 → begins_with key (drop later text) ≡ false

dark_differs : (byte : ℕ) → is_dark byte ≡ true → eqb byte 32 ≡ false
dark_differs byte dark = by_test (eqb byte 32) dark
  where
    by_test : (b : Bool) → not b ≡ true → b ≡ false
    by_test true e = absurd cc
    by_test false e = refl

-- no index within a word is a key's, since a key begins with a space
free_word : (key word text : List ℕ) (count : ℕ) → list_all is_dark word ≡ true → Free count (32 ∷ key) text
    → Free (length word + count) (32 ∷ key) (word ++ text)
free_word key [] text count dark free index lt = free index (omega arith)
free_word key (byte ∷ word) text count dark free zero lt =
    rw (dark_differs byte (and_parts (is_dark byte) (list_all is_dark word) dark).0) refl
free_word key (byte ∷ word) text count dark free (suc index) lt =
    free_word key word text count (and_parts (is_dark byte) (list_all is_dark word) dark).1 free index (omega arith)

-- nor is a space before another word
free_space : (key text : List ℕ) (count : ℕ) → begins_with key (32 ∷ text) ≡ false → Free count key text
    → Free (suc count) key (32 ∷ text)
free_space key text count other free zero lt = other
free_space key text count other free (suc index) lt = free index (omega arith)

free_none : (key text : List ℕ) → Free 0 key text
free_none key text index lt = absurd (omega arith)

alone_from_free : (key text : List ℕ) (count : ℕ) → 15 ≤ count → Free count key text → IsAlone key (32 ∷ text)
alone_from_free key text count long free zero above below = absurd (omega arith)
alone_from_free key text count long free (suc later) above below = free later (omega arith)

-- ---- digits and prios have no spaces

digit_dark : (byte : ℕ) → is_digit byte ≡ true → is_dark byte ≡ true
digit_dark byte digit = grind (arith, nat_tests)

pub digits_dark : (digits : List ℕ) → list_all is_digit digits ≡ true → list_all is_dark digits ≡ true
digits_dark [] all = refl
digits_dark (byte ∷ digits) all =
    let both = and_parts (is_digit byte) (list_all is_digit digits) all in
    rw (digit_dark byte both.0, digits_dark digits both.1) refl

-- ---- two words, or three, behind a name

-- a key's word with its digits, and another key's word
pub alone_two : (key digits other rest : List ℕ) → list_all is_dark key ≡ true → IsNumeral digits
    → list_all is_dark other ≡ true
    → begins_with (32 ∷ key) (32 ∷ (other ++ rest)) ≡ false → 13 ≤ length key + length other
    → IsAlone (32 ∷ key) (32 ∷ (key ++ (digits ++ (32 ∷ (other ++ rest)))))
alone_two key digits other rest dark numeral dark2 differs long =
    let second = free_word key other rest 0 dark2 (free_none (32 ∷ key) rest) in
    let space = free_space (32 ∷ key) (other ++ rest) (length other + 0) differs second in
    let first = free_word key digits (32 ∷ (other ++ rest)) (suc (length other + 0)) (digits_dark digits numeral.all)
    space in
    let all = free_word key key (digits ++ (32 ∷ (other ++ rest))) (length digits + suc (length other + 0)) dark
    first in
    alone_from_free (32 ∷ key) (key ++ (digits ++ (32 ∷ (other ++ rest))))
    (length key + (length digits + suc (length other + 0))) (omega (arith, numeral.some)) all

-- a key's word with its digits, another key's word with a word without spaces, and a third key's word
pub alone_three : (key digits other word third rest : List ℕ) → list_all is_dark key ≡ true → IsNumeral digits
    → list_all is_dark other ≡ true
    → list_all is_dark word ≡ true → 0 < length word → list_all is_dark third ≡ true
    → begins_with (32 ∷ key) (32 ∷ (other ++ (word ++ (32 ∷ (third ++ rest))))) ≡ false
    → begins_with (32 ∷ key) (32 ∷ (third ++ rest)) ≡ false
    → 11 ≤ length key + length other + length third
    → IsAlone (32 ∷ key) (32 ∷ (key ++ (digits ++ (32 ∷ (other ++ (word ++ (32 ∷ (third ++ rest))))))))
alone_three key digits other word third rest dark numeral dark2 dark_word some dark3 differs2 differs3 long =
    let t3 = 32 ∷ (third ++ rest) in
    let f3 = free_space (32 ∷ key) (third ++ rest) (length third + 0) differs3
    (free_word key third rest 0 dark3 (free_none (32 ∷ key) rest)) in
    let n3 = suc (length third + 0) in
    let fw = free_word key word t3 n3 dark_word f3 in
    let f2 = free_space (32 ∷ key) (other ++ (word ++ t3)) (length other + (length word + n3)) differs2
    (free_word key other (word ++ t3) (length word + n3) dark2 fw) in
    let n2 = suc (length other + (length word + n3)) in
    let first = free_word key digits (32 ∷ (other ++ (word ++ t3))) n2 (digits_dark digits numeral.all) f2 in
    let all = free_word key key (digits ++ (32 ∷ (other ++ (word ++ t3)))) (length digits + n2) dark first in
    alone_from_free (32 ∷ key) (key ++ (digits ++ (32 ∷ (other ++ (word ++ t3))))) (length key + (length digits + n2))
    (omega (arith, numeral.some)) all

-- ---- a prio has no space, and isn't empty

signed_dark : (minus : Bool) (digits : List ℕ) → IsNumeral digits
    → list_all is_dark (prio_text (record { minus = minus; digits = digits })) ≡ true
signed_dark true digits numeral = digits_dark digits numeral.all
signed_dark false digits numeral = digits_dark digits numeral.all

pub prio_dark : (prio : Prio) → IsNumeral prio.digits → list_all is_dark (prio_text prio) ≡ true
prio_dark prio numeral = signed_dark prio.minus prio.digits numeral

signed_some : (minus : Bool) (digits : List ℕ) → IsNumeral digits
    → 0 < length (prio_text (record { minus = minus; digits = digits }))
signed_some true digits numeral = omega arith
signed_some false digits numeral = numeral.some

pub prio_some : (prio : Prio) → IsNumeral prio.digits → 0 < length (prio_text prio)
prio_some prio numeral = signed_some prio.minus prio.digits numeral
