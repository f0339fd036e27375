-- Bytes of one line at the front of a text: they stand in its first line, and what follows that doesn't depend on them.
use Rattle.std.proofs.Common.{◌≡◌, ℕ, Bool, true, false, List, [], ◌∷◌, ◌++◌, refl, ap, ◌∙◌, append_assoc}
use Rattle.std.specs.Prelude.{IsTrue}
use Rattle.std.specs.List.{list_any, list_all, before_first, after_first, AllByRecursion}
use Rattle.std.proofs.lemmas.Bool.{and_parts, or_parts}
use Rattle.std.proofs.lemmas.List.Folds.{list_any-append}
use Rattle.text_parts.specs.Lines.{is_line_feed}
use Rattle.text_parts.specs.Unbroken.{IsUnbroken}
use Rattle.text_parts.specs.Pieces.{joined}
use Rattle.text_parts.proofs.TextLines.{before_first-cons, after_first-cons}

pub unbroken_append : (s t : List ℕ) → IsUnbroken s → IsUnbroken t → IsUnbroken (s ++ t)
unbroken_append s t a b = rw (list_any-append is_line_feed s t, a, b) refl

-- bytes that pass a test which a line feed doesn't pass
pub unbroken_run : (test : ℕ → Bool) → ((byte : ℕ) → test byte ≡ true → is_line_feed byte ≡ false) → (s : List ℕ)
    → IsTrue (list_all test s) → IsUnbroken s
unbroken_run test none [] all = refl
unbroken_run test none (byte ∷ s) all =
    let p = and_parts (test byte) (list_all test s) all in
    rw (none byte p.0, unbroken_run test none s p.1) refl

-- ---- in front of a text

pub first_line_behind : (front rest : List ℕ) → IsUnbroken front
    → before_first is_line_feed (front ++ rest) ≡ front ++ before_first is_line_feed rest
first_line_behind [] rest unbroken = refl
first_line_behind (byte ∷ front) rest unbroken =
    let p = or_parts (is_line_feed byte) (list_any is_line_feed front) unbroken in
    before_first-cons byte (front ++ rest) p.0
    ∙ ap (λ (line : List ℕ). byte ∷ line) (first_line_behind front rest p.1)

pub rest_behind : (front rest : List ℕ) → IsUnbroken front
    → after_first is_line_feed (front ++ rest) ≡ after_first is_line_feed rest
rest_behind [] rest unbroken = refl
rest_behind (byte ∷ front) rest unbroken =
    let p = or_parts (is_line_feed byte) (list_any is_line_feed front) unbroken in
    after_first-cons byte (front ++ rest) p.0 ∙ rest_behind front rest p.1

-- ---- parts one behind the other

-- a text behind parts
abbrev pub behind : List (List ℕ) → List ℕ → List ℕ
behind [] rest = rest
behind (part ∷ parts) rest = part ++ behind parts rest

pub joined_behind : (parts : List (List ℕ)) (rest : List ℕ) → joined parts ++ rest ≡ behind parts rest
joined_behind [] rest = refl
joined_behind (part ∷ []) rest = refl
joined_behind (part ∷ next ∷ parts) rest = append_assoc part (joined (next ∷ parts)) rest
    ∙ ap (λ (text : List ℕ). part ++ text) (joined_behind (next ∷ parts) rest)

pub joined_unbroken : (parts : List (List ℕ)) → AllByRecursion IsUnbroken parts → IsUnbroken (joined parts)
joined_unbroken [] each = refl
joined_unbroken (part ∷ []) each = each.0
joined_unbroken (part ∷ next ∷ parts) each =
    unbroken_append part (joined (next ∷ parts)) each.0 (joined_unbroken (next ∷ parts) each.1)
