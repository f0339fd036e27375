-- The first line that is no comment, from the front of the lines on.
use Rattle.std.proofs.Common.{◌≡◌, ℕ, false, List, [], ◌∷◌, ◌++◌, Option, Some, None, refl, sym, ap}
use Rattle.std.proofs.Common.{◌∙◌, subst, inl, inr}
use Rattle.std.specs.Prelude.{◌↔◌, All, MatchOption}
use Rattle.std.proofs.lemmas.List.Elements.{All-nil, All-cons, All-head, All-tail}
use Rattle.text_parts.specs.Lines.{is_comment, IsComment}
use Rattle.companion_file.specs.Spelling.{IsFirstLine}
use Rattle.companion_file.specs.Companion.{AreOfVersion}

first_is_content : (line : List ℕ) (version : ℕ) → IsFirstLine line version → is_comment line ≡ false
unfolding is_comment
first_is_content line version (inl p) = ap is_comment p.0
first_is_content line version (inr (inl p)) = ap is_comment p.0
first_is_content line version (inr (inr p)) = ap is_comment p.0

pub first_no_comment : (line : List ℕ) (version : ℕ) → IsFirstLine line version → ¬ IsComment line
first_no_comment line version first comment = let content = first_is_content line version first in absurd cc

past_by : (comment : List ℕ) (lines comments : List (List ℕ)) (line : List ℕ) (rest : List (List ℕ)) (version : ℕ)
    → IsComment comment → comment ∷ lines ≡ comments ++ line ∷ rest → All IsComment comments → IsFirstLine line version
    → AreOfVersion lines version
past_by comment lines [] line rest version is_comment parts are first =
    let same : comment ≡ line = cc in
    absurd (first_no_comment line version first (subst (λ (l : List ℕ). IsComment l) same is_comment))
past_by comment lines (c ∷ comments) line rest version is_comment parts are first =
    let tails : lines ≡ comments ++ line ∷ rest = cc in
    record {
      comments = comments;
      line = line;
      rest = rest;
      parts = tails;
      are_comments = All-tail (λ (l : List ℕ). IsComment l) c comments are;
      is_first = first;
    }

-- a comment in front changes nothing
pub past_comment : (comment : List ℕ) (lines : List (List ℕ)) (version : ℕ) → IsComment comment
    → AreOfVersion (comment ∷ lines) version → AreOfVersion lines version
past_comment comment lines version is_comment a =
    past_by comment lines a.comments a.line a.rest version is_comment a.parts a.are_comments a.is_first

pub with_comment : (comment : List ℕ) (lines : List (List ℕ)) (version : ℕ) → IsComment comment
    → AreOfVersion lines version → AreOfVersion (comment ∷ lines) version
with_comment comment lines version is_comment a = record {
  comments = comment ∷ a.comments;
  line = a.line;
  rest = a.rest;
  parts = ap (λ (ls : List (List ℕ)). comment ∷ ls) a.parts;
  are_comments = All-cons (λ (l : List ℕ). IsComment l) comment a.comments is_comment a.are_comments;
  is_first = a.is_first;
}

named_by : (line : List ℕ) (lines comments : List (List ℕ)) (first : List ℕ) (rest : List (List ℕ)) (version : ℕ)
    → ¬ IsComment line → line ∷ lines ≡ comments ++ first ∷ rest → All IsComment comments → IsFirstLine first version
    → IsFirstLine line version
named_by line lines [] first rest version content parts are names =
    let same : first ≡ line = cc in
    subst (λ (l : List ℕ). IsFirstLine l version) same names
named_by line lines (c ∷ comments) first rest version content parts are names =
    let same : c ≡ line = cc in
    absurd (content (subst (λ (l : List ℕ). IsComment l) same (All-head (λ (l : List ℕ). IsComment l) c comments are)))

-- a line that is no comment names the version itself
pub first_names : (line : List ℕ) (lines : List (List ℕ)) (version : ℕ) → ¬ IsComment line
    → AreOfVersion (line ∷ lines) version → IsFirstLine line version
first_names line lines version content a =
    named_by line lines a.comments a.line a.rest version content a.parts a.are_comments a.is_first

pub named_first : (line : List ℕ) (lines : List (List ℕ)) (version : ℕ) → IsFirstLine line version
    → AreOfVersion (line ∷ lines) version
named_first line lines version names = record {
  comments = [];
  line = line;
  rest = lines;
  parts = refl;
  are_comments = All-nil (λ (l : List ℕ). IsComment l);
  is_first = names;
}

-- no line names no version
none_by : (comments : List (List ℕ)) (line : List ℕ) (rest : List (List ℕ))
    → ◌≡◌ {A = List (List ℕ)} [] (comments ++ line ∷ rest) → ⊥
none_by [] line rest parts = absurd cc
none_by (c ∷ comments) line rest parts = absurd cc

pub of_no_version : (lines : List (List ℕ)) (version : ℕ) → lines ≡ [] → ¬ AreOfVersion lines version
of_no_version lines version none a = none_by a.comments a.line a.rest (sym none ∙ a.parts)

-- what the first line that is no comment names is what the lines do
abbrev pub IsVersionOf : List (List ℕ) → Option ℕ → Type 0
IsVersionOf lines found =
    MatchOption found ((version : ℕ) → ¬ AreOfVersion lines version) (λ version. AreOfVersion lines version)

pub first_found : (line : List ℕ) (lines : List (List ℕ)) (found : Option ℕ) → ¬ IsComment line
    → MatchOption found ((version : ℕ) → ¬ IsFirstLine line version) (λ version. IsFirstLine line version)
    → IsVersionOf (line ∷ lines) found
first_found line lines None content none = λ version a. none version (first_names line lines version content a)
first_found line lines (Some version) content names = named_first line lines version names

-- lines of the same versions
abbrev pub AreOfSame : List (List ℕ) → List (List ℕ) → Type 0
AreOfSame all lines = (version : ℕ) → AreOfVersion all version ↔ AreOfVersion lines version

pub found_in_all : (all lines : List (List ℕ)) (found : Option ℕ) → AreOfSame all lines → IsVersionOf lines found
    → IsVersionOf all found
found_in_all all lines None same none = λ version a. none version ((same version).0 a)
found_in_all all lines (Some version) same a = (same version).1 a
