-- A companion's lines name one version; so it is one thing whether a companion tells charges.
use Rattle.std.proofs.Common.{◌≡◌, ℕ, ◌+◌, Bool, true, false, nat_eq, List, [], ◌∷◌, ◌++◌, get_or, refl, sym, ap, ◌∙◌}
use Rattle.std.proofs.Common.{subst, inl, inr, arith, eq-eqb}
use Rattle.std.specs.Prelude.{◌↔◌, All, IsTrue}
use Rattle.std.proofs.lemmas.Bool.{eqb-true}
use Rattle.std.proofs.lemmas.List.Elements.{All-head, All-tail}
use Rattle.companion_file.specs.Companion.{AreOfVersion}
use Rattle.companion_file.specs.Spelling.{IsFirstLine}
use Rattle.audit_input.specs.Texts.{TellsCharges}
use Rattle.text_parts.specs.Lines.{is_comment, IsComment}

-- a first line is no comment
is_content : (line : List ℕ) (version : ℕ) → IsFirstLine line version → is_comment line ≡ false
unfolding is_comment
is_content line version (inl p) = ap is_comment p.0
is_content line version (inr (inl p)) = ap is_comment p.0
is_content line version (inr (inr p)) = ap is_comment p.0

no_comment : (line : List ℕ) (version : ℕ) → IsFirstLine line version → ¬ IsComment line
no_comment line version first comment = let content = is_content line version first in absurd cc

-- it ends with the digit of its version
ends_with : (line : List ℕ) (version : ℕ) → IsFirstLine line version → get_or line 14 0 ≡ 48 + version
ends_with line version (inl p) =
    let digit : get_or line 14 0 ≡ 49 = ap (λ (l : List ℕ). get_or l 14 0) p.0 in omega (arith, digit, p.1)
ends_with line version (inr (inl p)) =
    let digit : get_or line 14 0 ≡ 50 = ap (λ (l : List ℕ). get_or l 14 0) p.0 in omega (arith, digit, p.1)
ends_with line version (inr (inr p)) =
    let digit : get_or line 14 0 ≡ 51 = ap (λ (l : List ℕ). get_or l 14 0) p.0 in omega (arith, digit, p.1)

-- and so names one
one_named : (line : List ℕ) (version other : ℕ) → IsFirstLine line version → IsFirstLine line other → version ≡ other
one_named line version other first second =
    omega (arith, ends_with line version first, ends_with line other second)

-- behind the same comments
one_behind : (before comments : List (List ℕ)) (line first : List ℕ) (rest more : List (List ℕ)) (version other : ℕ)
    → before ++ line ∷ rest ≡ comments ++ first ∷ more → All IsComment before → All IsComment comments
    → IsFirstLine line version → IsFirstLine first other → version ≡ other
one_behind [] [] line first rest more version other parts are also names tells =
    let same : first ≡ line = cc in
    one_named line version other names (subst (λ (l : List ℕ). IsFirstLine l other) same tells)
one_behind [] (c ∷ comments) line first rest more version other parts are also names tells =
    let same : c ≡ line = cc in
    absurd (no_comment line version names
    (subst (λ (l : List ℕ). IsComment l) same (All-head (λ (l : List ℕ). IsComment l) c comments also)))
one_behind (b ∷ before) [] line first rest more version other parts are also names tells =
    let same : b ≡ first = cc in
    absurd (no_comment first other tells
    (subst (λ (l : List ℕ). IsComment l) same (All-head (λ (l : List ℕ). IsComment l) b before are)))
one_behind (b ∷ before) (c ∷ comments) line first rest more version other parts are also names tells =
    let tails : before ++ line ∷ rest ≡ comments ++ first ∷ more = cc in
    one_behind before comments line first rest more version other tails
    (All-tail (λ (l : List ℕ). IsComment l) b before are)
    (All-tail (λ (l : List ℕ). IsComment l) c comments also) names tells

one_version : (lines : List (List ℕ)) (version other : ℕ) → AreOfVersion lines version → AreOfVersion lines other
    → version ≡ other
one_version lines version other a b =
    one_behind a.comments b.comments a.line b.line a.rest b.rest version other (sym a.parts ∙ b.parts) a.are_comments
    b.are_comments a.is_first b.is_first

-- lines that name a version tell charges where that is version 3
pub tells_at : (lines : List (List ℕ)) (version : ℕ) → AreOfVersion lines version
    → IsTrue (nat_eq version 3) ↔ AreOfVersion lines 3
tells_at lines version a = (
  λ e. subst (λ (n : ℕ). AreOfVersion lines n) (eqb-true version 3 e) a,
  λ b. eq-eqb version 3 (one_version lines version 3 a b),
)

-- and those that name none don't
pub tells_none : (lines : List (List ℕ)) → ((version : ℕ) → ¬ AreOfVersion lines version)
    → IsTrue false ↔ AreOfVersion lines 3
tells_none lines none = (λ e. absurd cc, λ a. absurd (none 3 a))

-- whether charges are told is one thing
pub one_telling : (text : List ℕ) (one other : Bool) → TellsCharges text one → TellsCharges text other → one ≡ other
one_telling text true true a b = refl
one_telling text true false a b = sym (b.1 (a.0 refl))
one_telling text false true a b = a.1 (b.0 refl)
one_telling text false false a b = refl
