-- Lines without changes of nice values and policies say the same in versions 1 and 2, and lines without charges in
-- versions 2 and 3: what they say differs in the version alone, which no test of such a line looks at.
use Rattle.std.proofs.Common.{◌≡◌, ℕ, suc, false, List, [], ◌∷◌, ◌++◌, length, All, Option, Some, None, Result, Ok, Err}
use Rattle.std.proofs.Common.{refl, sym, ap, subst, ◌∙◌, inl, inr, ◌+◌, ◌⊎◌, arith}
use Rattle.std.specs.Prelude.{◌↔◌, codes, MatchOption}
use Rattle.std.proofs.lemmas.List.Elements.{All-nil, All-cons, All-head, All-tail}
use Rattle.std.specs.Option.{option_map_or}
use Rattle.companion_file.specs.declared.fault.CompanionCause.{CompanionCause}
use Rattle.text_parts.specs.Lines.{lines_of, is_comment, IsComment}
use Rattle.companion_file.specs.Shape.{Shape, version_line, cpus_line, start_line, floor_line, task_line, claim_line}
use Rattle.companion_file.specs.Shape.{nice_line, idle_line, charge_line}
use Rattle.companion_file.specs.Spelling.{IsFirstLine, IsSpelled}
use Rattle.companion_file.specs.Earlier.{Said, summed, has_all_floors}
use Rattle.companion_file.specs.Tests.{fault_of, tested, IsJudgedFirst, IsJudgedLater, IsJudged}
use Rattle.companion_file.specs.Draft.{with_line}
use Rattle.companion_file.specs.Companion.{CompanionView, AreGood, IsFirstBadCompanionLine, IsShort, IsRead}
use Rattle.companion_file.specs.Companion.{CompanionAnswer}
use Rattle.companion_file.specs.Versions.{IsOfBothVersions, DifferInVersion, TellsNoCharge, DifferInThird}
use Rattle.companion_file.proofs.Summing.{summed-push}
use Rattle.companion_file.proofs.GoodLines.{tested_ok}
use Rattle.companion_file.proofs.OneAnswer.{one_version}

-- what was said but for the version
abbrev unversioned : Said → Said
unversioned said = record said { version = None }

-- in these versions a line has the same shapes
abbrev AreSpelledAlike : ℕ → ℕ → List ℕ → Type 0
AreSpelledAlike v w line = (x : Shape) → IsSpelled v line x → IsSpelled w line x

-- lines that said the same but for the version
record AreAlike (v w : ℕ) (a b : List Shape) : Type 0 where
  pub one : (summed a).version ≡ Some v
  pub two : (summed b).version ≡ Some w
  pub same : unversioned (summed a) ≡ unversioned (summed b)

-- ---- one line

fault_unversioned : (said : Said) (x : Shape) → fault_of said x ≡ fault_of (unversioned said) x
fault_unversioned said (version_line n) = refl
fault_unversioned said (cpus_line n) = refl
fault_unversioned said (start_line seconds nanoseconds) = refl
fault_unversioned said (floor_line cpu floor) = refl
fault_unversioned said (task_line task) = refl
fault_unversioned said (claim_line claim) = refl
fault_unversioned said (nice_line change) = refl
fault_unversioned said (idle_line idle) = refl
fault_unversioned said (charge_line charge) = refl

same_fault_of : (said other : Said) (x : Shape) → unversioned said ≡ unversioned other
    → fault_of said x ≡ fault_of other x
same_fault_of said other x same =
    fault_unversioned said x ∙ ap (λ (s : Said). fault_of s x) same ∙ sym (fault_unversioned other x)

same_tested : (said other : Said) (x : Shape) → unversioned said ≡ unversioned other → tested said x ≡ tested other x
same_tested said other x same =
    ap (λ (f : Option CompanionCause). option_map_or (λ cause. Err cause) f (Ok x)) (same_fault_of said other x same)

later_alike : (v w : ℕ) (said other : Said) (line : List ℕ) (r : Result Shape CompanionCause)
    → unversioned said ≡ unversioned other → AreSpelledAlike v w line → AreSpelledAlike w v line
    → IsJudgedLater v said line r → IsJudgedLater w other line r
later_alike v w said other line r same there back (inl p) = inl p
later_alike v w said other line r same there back (inr (inl p)) = inr (inl (p.0, λ x h. p.1 x (back x h), p.2))
later_alike v w said other line r same there back (inr (inr p)) =
    inr (inr (p.0, (p.1.0, there p.1.0 p.1.1, p.1.2 ∙ same_tested said other p.1.0 same)))

-- a line behind the first one is judged as a later one
as_later : (version : Option ℕ) (v : ℕ) (said : Said) (line : List ℕ) (r : Result Shape CompanionCause)
    → version ≡ Some v → MatchOption version (IsJudgedFirst line r) (λ k. IsJudgedLater k said line r)
    → IsJudgedLater v said line r
as_later version v said line r e p =
    subst (λ (o : Option ℕ). MatchOption o (IsJudgedFirst line r) (λ k. IsJudgedLater k said line r)) e p

from_later : (version : Option ℕ) (v : ℕ) (said : Said) (line : List ℕ) (r : Result Shape CompanionCause)
    → version ≡ Some v → IsJudgedLater v said line r
    → MatchOption version (IsJudgedFirst line r) (λ k. IsJudgedLater k said line r)
from_later version v said line r e p =
    subst (λ (o : Option ℕ). MatchOption o (IsJudgedFirst line r) (λ k. IsJudgedLater k said line r)) (sym e) p

judged_alike : (v w : ℕ) (a b : List Shape) (line : List ℕ) (r : Result Shape CompanionCause) → AreAlike v w a b
    → AreSpelledAlike v w line → AreSpelledAlike w v line → IsJudged (summed a) line r → IsJudged (summed b) line r
judged_alike v w a b line r alike there back p =
    from_later (summed b).version w (summed b) line r alike.two (later_alike v w (summed a) (summed b) line r alike.same
    there back (as_later (summed a).version v (summed a) line r alike.one p))

-- a good line of a later version passes its tests
passes_later : (v : ℕ) (said : Said) (line : List ℕ) (x : Shape) → IsJudgedLater v said line (Ok x)
    → fault_of said x ≡ None
passes_later v said line x (inl p) = absurd cc
passes_later v said line x (inr (inl p)) = absurd cc
passes_later v said line x (inr (inr p)) =
    let told = tested_ok said p.1.0 x p.1.2 in
    subst (λ (y : Shape). fault_of said y ≡ None) (sym told.1) told.0

alike_push : (v w : ℕ) (a b : List Shape) (x : Shape) → AreAlike v w a b
    → (with_line (summed a) x).version ≡ (summed a).version → (with_line (summed b) x).version ≡ (summed b).version
    → unversioned (with_line (summed a) x) ≡ unversioned (with_line (summed b) x)
    → AreAlike v w (a ++ x ∷ []) (b ++ x ∷ [])
alike_push v w a b x alike one two same = record {
  one = ap (λ (s : Said). s.version) (summed-push a x) ∙ one ∙ alike.one;
  two = ap (λ (s : Said). s.version) (summed-push b x) ∙ two ∙ alike.two;
  same = ap (λ (s : Said). unversioned s) (summed-push a x) ∙ same
      ∙ sym (ap (λ (s : Said). unversioned s) (summed-push b x));
}

alike_with : (v w : ℕ) (a b : List Shape) (x : Shape) → AreAlike v w a b → fault_of (summed a) x ≡ None
    → AreAlike v w (a ++ x ∷ []) (b ++ x ∷ [])
alike_with v w a b (version_line n) alike passes = absurd cc
alike_with v w a b (cpus_line n) alike passes =
    alike_push v w a b (cpus_line n) alike refl refl (ap (λ (s : Said). with_line s (cpus_line n)) alike.same)
alike_with v w a b (start_line s n) alike passes =
    alike_push v w a b (start_line s n) alike refl refl (ap (λ (t : Said). with_line t (start_line s n)) alike.same)
alike_with v w a b (floor_line c f) alike passes =
    alike_push v w a b (floor_line c f) alike refl refl (ap (λ (s : Said). with_line s (floor_line c f)) alike.same)
alike_with v w a b (task_line t) alike passes =
    alike_push v w a b (task_line t) alike refl refl (ap (λ (s : Said). with_line s (task_line t)) alike.same)
alike_with v w a b (claim_line k) alike passes =
    alike_push v w a b (claim_line k) alike refl refl (ap (λ (s : Said). with_line s (claim_line k)) alike.same)
alike_with v w a b (nice_line k) alike passes =
    alike_push v w a b (nice_line k) alike refl refl (ap (λ (s : Said). with_line s (nice_line k)) alike.same)
alike_with v w a b (idle_line k) alike passes =
    alike_push v w a b (idle_line k) alike refl refl (ap (λ (s : Said). with_line s (idle_line k)) alike.same)
alike_with v w a b (charge_line k) alike passes =
    alike_push v w a b (charge_line k) alike refl refl (ap (λ (s : Said). with_line s (charge_line k)) alike.same)

-- ---- lines behind the first one

-- each of these lines has the same shapes in both versions, both ways
abbrev BothWays : ℕ → ℕ → List ℕ → Type 0
BothWays v w line = AreSpelledAlike v w line × AreSpelledAlike w v line

good_alike : (v w : ℕ) (a b : List Shape) (lines : List (List ℕ)) (said : List Shape) → AreAlike v w a b
    → All (BothWays v w) lines → AreGood a lines said
    → (other : List Shape) × AreGood b lines other × AreAlike v w said other
good_alike v w a b [] said alike all p = (b, refl, subst (λ (s : List Shape). AreAlike v w s b) (sym p) alike)
good_alike v w a b (line ∷ lines) said alike all (inl p) =
    let more = good_alike v w a b lines said alike (All-tail (BothWays v w) line lines all) p.1 in
    (more.0, inl (p.0, more.1), more.2)
good_alike v w a b (line ∷ lines) said alike all (inr p) =
    let x = p.1.0 in
    let passes = passes_later v (summed a) line x
    (as_later (summed a).version v (summed a) line (Ok x) alike.one p.1.1) in
    let both = All-head (BothWays v w) line lines all in
    let more = good_alike v w (a ++ x ∷ []) (b ++ x ∷ []) lines said (alike_with v w a b x alike passes)
    (All-tail (BothWays v w) line lines all) p.1.2 in
    (more.0, inr (p.0, (x, judged_alike v w a b line (Ok x) alike both.0 both.1 p.1.1, more.1)), more.2)

-- after what was said the first bad one of these lines, behind so many
record IsBadAmong (earlier : List Shape) (lines : List (List ℕ)) (place : ℕ) (cause : CompanionCause) : Type 0 where
  pub before : List (List ℕ)
  pub line : List ℕ
  pub after : List (List ℕ)
  pub said : List Shape
  pub parts : lines ≡ before ++ line ∷ after
  pub placed : place ≡ length before
  pub good : AreGood earlier before said
  pub content : ¬ IsComment line
  pub bad : IsJudged (summed said) line (Err cause)

all_before : (P : List ℕ → Type 0) (before : List (List ℕ)) (line : List ℕ) (after : List (List ℕ))
    → All P (before ++ line ∷ after) → All P before × P line
all_before P [] line after all = (All-nil P, All-head P line after all)
all_before P (first ∷ before) line after all =
    let more = all_before P before line after (All-tail P first (before ++ line ∷ after) all) in
    (All-cons P first before (All-head P first (before ++ line ∷ after) all) more.0, more.1)

bad_alike : (v w : ℕ) (a b : List Shape) (lines : List (List ℕ)) (place : ℕ) (cause : CompanionCause)
    → AreAlike v w a b → All (BothWays v w) lines → IsBadAmong a lines place cause → IsBadAmong b lines place cause
bad_alike v w a b lines place cause alike all p =
    let parts = all_before (BothWays v w) p.before p.line p.after
    (subst (λ (ls : List (List ℕ)). All (BothWays v w) ls) p.parts all) in
    let good = good_alike v w a b p.before p.said alike parts.0 p.good in
    record {
      before = p.before;
      line = p.line;
      after = p.after;
      said = good.0;
      parts = p.parts;
      placed = p.placed;
      good = good.1;
      content = p.content;
      bad = judged_alike v w p.said good.0 p.line (Err cause) good.2 parts.1.0 parts.1.1 p.bad;
    }

-- ---- the first line, and the comments before it

-- a first line of this version, which is no comment
record IsFirst (line : List ℕ) (v : ℕ) : Type 0 where
  pub is_first : IsFirstLine line v
  pub content : ¬ IsComment line

judged_first : (line : List ℕ) (v : ℕ) (x : Shape) → IsFirst line v → IsJudgedFirst line (Ok x) → x ≡ version_line v
judged_first line v x first (inl p) =
    let same = one_version line p.0 v p.1 first.is_first in
    let e = p.2 in
    let f : ◌≡◌ {A = Shape} (version_line p.0) (version_line v) = ap (λ (n : ℕ). version_line n) same in
    cc
judged_first line v x first (inr p) = absurd cc

never_bad_first : (line : List ℕ) (v : ℕ) (cause : CompanionCause) → IsFirst line v → IsJudgedFirst line (Err cause) → ⊥
never_bad_first line v cause first (inl p) = absurd cc
never_bad_first line v cause first (inr p) = p.0 v first.is_first

past_first : (line : List ℕ) (v : ℕ) (lines : List (List ℕ)) (said : List Shape) → IsFirst line v
    → AreGood [] (line ∷ lines) said → AreGood (version_line v ∷ []) lines said
past_first line v lines said first (inl p) = absurd (first.content p.0)
past_first line v lines said first (inr p) =
    subst (λ (x : Shape). AreGood (x ∷ []) lines said) (judged_first line v p.1.0 first p.1.1) p.1.2

with_first : (line : List ℕ) (v : ℕ) (lines : List (List ℕ)) (said : List Shape) → IsFirst line v
    → AreGood (version_line v ∷ []) lines said → AreGood [] (line ∷ lines) said
with_first line v lines said first p = inr (first.content, (version_line v, inl (v, first.is_first, refl), p))

-- two first lines of these versions
record AreFirst (line other : List ℕ) (v w : ℕ) : Type 0 where
  pub one : IsFirst line v
  pub two : IsFirst other w

start_alike : (v w : ℕ) → AreAlike v w (version_line v ∷ []) (version_line w ∷ [])
start_alike v w = record { one = refl; two = refl; same = refl }

good_by : (v w : ℕ) (line other : List ℕ) (comments rest : List (List ℕ)) (said : List Shape) → AreFirst line other v w
    → All IsComment comments → All (BothWays v w) rest → AreGood [] (comments ++ line ∷ rest) said
    → (alike : List Shape) × AreGood [] (comments ++ other ∷ rest) alike × AreAlike v w said alike
good_by v w line other [] rest said first are all p =
    let more = good_alike v w (version_line v ∷ []) (version_line w ∷ []) rest said (start_alike v w) all
    (past_first line v rest said first.one p) in
    (more.0, with_first other w rest more.0 first.two more.1, more.2)
good_by v w line other (comment ∷ comments) rest said first are all (inl p) =
    let more = good_by v w line other comments rest said first
    (All-tail (λ (l : List ℕ). IsComment l) comment comments are) all p.1 in
    (more.0, inl (p.0, more.1), more.2)
good_by v w line other (comment ∷ comments) rest said first are all (inr p) =
    absurd (p.0 (All-head (λ (l : List ℕ). IsComment l) comment comments are))

-- the same lines behind one more, after which this was said
bad_behind : (earlier more : List Shape) (line : List ℕ) (lines : List (List ℕ)) (place : ℕ) (cause : CompanionCause)
    → ((before : List (List ℕ)) (said : List Shape) → AreGood more before said → AreGood earlier (line ∷ before) said)
    → IsBadAmong more lines place cause → IsBadAmong earlier (line ∷ lines) (suc place) cause
bad_behind earlier more line lines place cause with_line_good p = record {
  before = line ∷ p.before;
  line = p.line;
  after = p.after;
  said = p.said;
  parts = ap (λ (ls : List (List ℕ)). line ∷ ls) p.parts;
  placed = ap suc p.placed;
  good = with_line_good p.before p.said p.good;
  content = p.content;
  bad = p.bad;
}

-- a bad line isn't the one before it that is good, so it is one of the others
bad_past : (earlier more : List Shape) (line : List ℕ) (lines before : List (List ℕ)) (bad : List ℕ)
    (after : List (List ℕ)) (said : List Shape) (place : ℕ) (cause : CompanionCause)
    → ((others : List (List ℕ)) (told : List Shape) → AreGood earlier (line ∷ others) told → AreGood more others told)
    → ((¬ IsComment line) → IsJudged (summed earlier) line (Err cause) → ⊥) → line ∷ lines ≡ before ++ bad ∷ after
    → place ≡ length before → AreGood earlier before said → (¬ IsComment bad) → IsJudged (summed said) bad (Err cause)
    → (less : ℕ) × (place ≡ suc less) × IsBadAmong more lines less cause
bad_past earlier more line lines [] bad after said place cause past never parts placed good content judged =
    let same : bad ≡ line = cc in
    absurd (never (subst (λ (l : List ℕ). ¬ IsComment l) same content)
    (subst (λ (l : List ℕ). IsJudged (summed earlier) l (Err cause)) same
    (subst (λ (s : List Shape). IsJudged (summed s) bad (Err cause)) good judged)))
bad_past earlier more line lines (first ∷ before) bad after said place cause past never parts placed good content
    judged =
    let same : first ≡ line = cc in
    let tails : lines ≡ before ++ bad ∷ after = cc in (
      length before,
      placed,
      record {
        before = before;
        line = bad;
        after = after;
        said = said;
        parts = tails;
        placed = refl;
        good = past before said (subst (λ (l : List ℕ). AreGood earlier (l ∷ before) said) same good);
        content = content;
        bad = judged;
      },
    )

-- a comment isn't bad, and says nothing
past_a_comment : (earlier : List Shape) (comment : List ℕ) (others : List (List ℕ)) (told : List Shape)
    → IsComment comment → AreGood earlier (comment ∷ others) told → AreGood earlier others told
past_a_comment earlier comment others told is_comment (inl p) = p.1
past_a_comment earlier comment others told is_comment (inr p) = absurd (p.0 is_comment)

bad_by : (v w : ℕ) (line other : List ℕ) (comments rest : List (List ℕ)) (place : ℕ) (cause : CompanionCause)
    → AreFirst line other v w → All IsComment comments → All (BothWays v w) rest
    → IsBadAmong [] (comments ++ line ∷ rest) place cause → IsBadAmong [] (comments ++ other ∷ rest) place cause
bad_by v w line other [] rest place cause first are all p =
    let past = bad_past [] (version_line v ∷ []) line rest p.before p.line p.after p.said place cause
    (λ others told good. past_first line v others told first.one good)
    (λ content judged. never_bad_first line v cause first.one judged) p.parts p.placed p.good p.content p.bad in
    let moved = bad_alike v w (version_line v ∷ []) (version_line w ∷ []) rest past.0 cause (start_alike v w) all
    past.2 in
    subst (λ (n : ℕ). IsBadAmong [] (other ∷ rest) n cause) (sym past.1)
    (bad_behind [] (version_line w ∷ []) other rest past.0 cause
    (λ before said good. with_first other w before said first.two good) moved)
bad_by v w line other (comment ∷ comments) rest place cause first are all p =
    let is_comment = All-head (λ (l : List ℕ). IsComment l) comment comments are in
    let past = bad_past [] [] comment (comments ++ line ∷ rest) p.before p.line p.after p.said place cause
    (λ others told good. past_a_comment [] comment others told is_comment good) (λ content judged. content is_comment)
    p.parts
    p.placed p.good p.content p.bad in
    let moved = bad_by v w line other comments rest past.0 cause first
    (All-tail (λ (l : List ℕ). IsComment l) comment comments are) all past.2 in
    subst (λ (n : ℕ). IsBadAmong [] (comment ∷ comments ++ other ∷ rest) n cause) (sym past.1)
    (bad_behind [] [] comment (comments ++ other ∷ rest) past.0 cause (λ before said good. inl (is_comment, good))
    moved)

-- ---- the whole

same_length : (line other : List ℕ) (comments rest : List (List ℕ))
    → length (comments ++ line ∷ rest) ≡ length (comments ++ other ∷ rest)
same_length line other [] rest = refl
same_length line other (comment ∷ comments) rest = ap suc (same_length line other comments rest)

read_by : (v w : ℕ) (line other : List ℕ) (comments rest : List (List ℕ)) (r : CompanionView) → AreFirst line other v w
    → All IsComment comments → All (BothWays v w) rest → IsRead (comments ++ line ∷ rest) r
    → IsRead (comments ++ other ∷ rest) r
read_by v w line other comments rest r first are all p =
    let good = good_by v w line other comments rest p.said first are all p.good in
    let same = good.2.same in
    record {
      said = good.0;
      good = good.1;
      whole = ap (λ (s : Said). has_all_floors s) (sym same) ∙ p.whole;
      cpus_is = ap (λ (s : Said). s.cpus) (sym same) ∙ p.cpus_is;
      start_is = ap (λ (s : Said). s.start) (sym same) ∙ p.start_is;
      floors_is = p.floors_is ∙ ap (λ (s : Said). s.floors) same;
      tasks_is = p.tasks_is ∙ ap (λ (s : Said). s.tasks) same;
      claims_is = p.claims_is ∙ ap (λ (s : Said). s.claims) same;
      nices_is = p.nices_is ∙ ap (λ (s : Said). s.nices) same;
      idles_is = p.idles_is ∙ ap (λ (s : Said). s.idles) same;
      charges_is = p.charges_is ∙ ap (λ (s : Said). s.charges) same;
    }

short_by : (v w : ℕ) (line other : List ℕ) (comments rest : List (List ℕ)) (number : ℕ) (cause : CompanionCause)
    → AreFirst line other v w → All IsComment comments → All (BothWays v w) rest
    → IsShort (comments ++ line ∷ rest) number cause → IsShort (comments ++ other ∷ rest) number cause
short_by v w line other comments rest number cause first are all p =
    let good = good_by v w line other comments rest p.said first are all p.good in
    record {
      said = good.0;
      good = good.1;
      missing = ap (λ (s : Said). has_all_floors s) (sym good.2.same) ∙ p.missing;
      place = p.place ∙ ap (λ (n : ℕ). n + 1) (same_length line other comments rest);
      name = p.name;
    }

refused_by : (v w : ℕ) (line other : List ℕ) (comments rest : List (List ℕ)) (number : ℕ) (cause : CompanionCause)
    → AreFirst line other v w → All IsComment comments → All (BothWays v w) rest
    → IsFirstBadCompanionLine (comments ++ line ∷ rest) number cause
    → IsFirstBadCompanionLine (comments ++ other ∷ rest) number cause
refused_by v w line other comments rest number cause first are all p =
    let b = bad_by v w line other comments rest (length p.before) cause first are all (record {
      before = p.before;
      line = p.line;
      after = p.after;
      said = p.said;
      parts = p.parts;
      placed = refl;
      good = p.good;
      content = p.content;
      bad = p.bad;
    }) in
    record {
      before = b.before;
      line = b.line;
      after = b.after;
      said = b.said;
      parts = b.parts;
      place = p.place ∙ ap (λ (n : ℕ). n + 1) b.placed;
      good = b.good;
      content = b.content;
      bad = b.bad;
    }

-- what lines come to
abbrev LinesAnswer : List (List ℕ) → Result CompanionView (ℕ × CompanionCause) → Type 0
LinesAnswer lines (Ok r) = IsRead lines r
LinesAnswer lines (Err fault) =
    IsFirstBadCompanionLine lines fault.0 fault.1 ⊎ IsShort lines fault.0 fault.1

answer_by : (v w : ℕ) (line other : List ℕ) (comments rest : List (List ℕ))
    (answer : Result CompanionView (ℕ × CompanionCause)) → AreFirst line other v w → All IsComment comments
    → All (BothWays v w) rest → LinesAnswer (comments ++ line ∷ rest) answer
    → LinesAnswer (comments ++ other ∷ rest) answer
answer_by v w line other comments rest (Ok r) first are all p = read_by v w line other comments rest r first are all p
answer_by v w line other comments rest (Err fault) first are all (inl p) =
    inl (refused_by v w line other comments rest fault.0 fault.1 first are all p)
answer_by v w line other comments rest (Err fault) first are all (inr p) =
    inr (short_by v w line other comments rest fault.0 fault.1 first are all p)

text_answer : (text : List ℕ) (answer : Result CompanionView (ℕ × CompanionCause))
    → CompanionAnswer text answer ↔ LinesAnswer (lines_of text) answer
text_answer text (Ok r) = (λ p. p, λ p. p)
text_answer text (Err fault) = (λ p. p, λ p. p)

-- ---- versions 1 and 2

one_to_two : (line : List ℕ) → AreSpelledAlike 1 2 line
one_to_two line (version_line n) p = p
one_to_two line (cpus_line n) p = p
one_to_two line (start_line seconds nanoseconds) p = p
one_to_two line (floor_line cpu floor) p = p
one_to_two line (task_line task) p = p
one_to_two line (claim_line claim) p = p
one_to_two line (nice_line change) p = absurd (omega (arith, p.0))
one_to_two line (idle_line idle) p = absurd (omega (arith, p.0))
one_to_two line (charge_line charge) p = absurd (omega (arith, p.0))

two_to_one : (line : List ℕ) → IsOfBothVersions line → AreSpelledAlike 2 1 line
two_to_one line both (version_line n) p = p
two_to_one line both (cpus_line n) p = p
two_to_one line both (start_line seconds nanoseconds) p = p
two_to_one line both (floor_line cpu floor) p = p
two_to_one line both (task_line task) p = p
two_to_one line both (claim_line claim) p = p
two_to_one line both (nice_line change) p = absurd (both.no_change change p)
two_to_one line both (idle_line idle) p = absurd (both.no_policy idle p)
two_to_one line both (charge_line charge) p = absurd (omega (arith, p.0))

there_and_back : (rest : List (List ℕ)) → All IsOfBothVersions rest → All (BothWays 1 2) rest
there_and_back [] all = All-nil (BothWays 1 2)
there_and_back (line ∷ rest) all =
    All-cons (BothWays 1 2) line rest (one_to_two line, two_to_one line (All-head IsOfBothVersions line rest all))
    (there_and_back rest (All-tail IsOfBothVersions line rest all))

back_and_there : (rest : List (List ℕ)) → All IsOfBothVersions rest → All (BothWays 2 1) rest
back_and_there [] all = All-nil (BothWays 2 1)
back_and_there (line ∷ rest) all =
    All-cons (BothWays 2 1) line rest (two_to_one line (All-head IsOfBothVersions line rest all), one_to_two line)
    (back_and_there rest (All-tail IsOfBothVersions line rest all))

first_one_content : is_comment (codes "cfs-companion 1") ≡ false
unfolding is_comment
first_one_content = refl

first_two_content : is_comment (codes "cfs-companion 2") ≡ false
unfolding is_comment
first_two_content = refl

no_comment : (line : List ℕ) → is_comment line ≡ false → ¬ IsComment line
no_comment line e c = absurd cc

first_one : IsFirst (codes "cfs-companion 1") 1
first_one = record {
  is_first = inl (refl, refl);
  content = no_comment (codes "cfs-companion 1") first_one_content;
}

first_two : IsFirst (codes "cfs-companion 2") 2
first_two = record {
  is_first = inr (inl (refl, refl));
  content = no_comment (codes "cfs-companion 2") first_two_content;
}

-- two texts with these first lines mean the same
same_behind : (v w : ℕ) (line other : List ℕ) (comments rest : List (List ℕ)) (one two : List ℕ)
    (answer : Result CompanionView (ℕ × CompanionCause)) → AreFirst line other v w → All IsComment comments
    → All (BothWays v w) rest → lines_of one ≡ comments ++ line ∷ rest → lines_of two ≡ comments ++ other ∷ rest
    → CompanionAnswer one answer → CompanionAnswer two answer
same_behind v w line other comments rest one two answer first are all one_is two_is p =
    (text_answer two answer).1 (subst (λ (ls : List (List ℕ)). LinesAnswer ls answer) (sym two_is)
    (answer_by v w line other comments rest answer first are all
    (subst (λ (ls : List (List ℕ)). LinesAnswer ls answer) one_is ((text_answer one answer).0 p))))

pub same_in_both : (one two : List ℕ) (answer : Result CompanionView (ℕ × CompanionCause)) → DifferInVersion one two
    → CompanionAnswer one answer ↔ CompanionAnswer two answer
same_in_both one two answer d =
    let first = codes "cfs-companion 1" in
    let second = codes "cfs-companion 2" in (
      same_behind 1 2 first second d.comments d.rest one two answer (record { one = first_one; two = first_two })
          d.are_comments (there_and_back d.rest d.of_both) d.one_is d.two_is,
      same_behind 2 1 second first d.comments d.rest two one answer (record { one = first_two; two = first_one })
          d.are_comments (back_and_there d.rest d.of_both) d.two_is d.one_is,
    )

-- ---- versions 2 and 3

two_to_three : (line : List ℕ) → AreSpelledAlike 2 3 line
two_to_three line (version_line n) p = p
two_to_three line (cpus_line n) p = p
two_to_three line (start_line seconds nanoseconds) p = p
two_to_three line (floor_line cpu floor) p = p
two_to_three line (task_line task) p = p
two_to_three line (claim_line claim) p = p
two_to_three line (nice_line change) p = (omega arith, p.1, p.2, p.3, p.4, p.5, p.6, p.7)
two_to_three line (idle_line idle) p = (omega arith, p.1, p.2, p.3, p.4, p.5)
two_to_three line (charge_line charge) p = absurd (omega (arith, p.0))

three_to_two : (line : List ℕ) → TellsNoCharge line → AreSpelledAlike 3 2 line
three_to_two line none (version_line n) p = p
three_to_two line none (cpus_line n) p = p
three_to_two line none (start_line seconds nanoseconds) p = p
three_to_two line none (floor_line cpu floor) p = p
three_to_two line none (task_line task) p = p
three_to_two line none (claim_line claim) p = p
three_to_two line none (nice_line change) p = (omega arith, p.1, p.2, p.3, p.4, p.5, p.6, p.7)
three_to_two line none (idle_line idle) p = (omega arith, p.1, p.2, p.3, p.4, p.5)
three_to_two line none (charge_line charge) p = absurd (none charge p)

up_to_third : (rest : List (List ℕ)) → All TellsNoCharge rest → All (BothWays 2 3) rest
up_to_third [] all = All-nil (BothWays 2 3)
up_to_third (line ∷ rest) all =
    All-cons (BothWays 2 3) line rest (two_to_three line, three_to_two line (All-head TellsNoCharge line rest all))
    (up_to_third rest (All-tail TellsNoCharge line rest all))

down_to_second : (rest : List (List ℕ)) → All TellsNoCharge rest → All (BothWays 3 2) rest
down_to_second [] all = All-nil (BothWays 3 2)
down_to_second (line ∷ rest) all =
    All-cons (BothWays 3 2) line rest (three_to_two line (All-head TellsNoCharge line rest all), two_to_three line)
    (down_to_second rest (All-tail TellsNoCharge line rest all))

first_three_content : is_comment (codes "cfs-companion 3") ≡ false
unfolding is_comment
first_three_content = refl

first_three : IsFirst (codes "cfs-companion 3") 3
first_three = record {
  is_first = inr (inr (refl, refl));
  content = no_comment (codes "cfs-companion 3") first_three_content;
}

pub same_in_third : (two three : List ℕ) (answer : Result CompanionView (ℕ × CompanionCause)) → DifferInThird two three
    → CompanionAnswer two answer ↔ CompanionAnswer three answer
same_in_third two three answer d =
    let second = codes "cfs-companion 2" in
    let third = codes "cfs-companion 3" in (
      same_behind 2 3 second third d.comments d.rest two three answer (record { one = first_two; two = first_three })
          d.are_comments (up_to_third d.rest d.no_charge) d.two_is d.three_is,
      same_behind 3 2 third second d.comments d.rest three two answer (record { one = first_three; two = first_two })
          d.are_comments (down_to_second d.rest d.no_charge) d.three_is d.two_is,
    )
