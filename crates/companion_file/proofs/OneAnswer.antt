-- A text has at most one answer. A line comes to one thing after what was said before it: two shapes that it spells
-- are read as one, and they fail the same test or are the same. So two first bad lines stand at one place.
use Rattle.std.proofs.Common.{◌≡◌, ℕ, suc, ◌≤◌, List, [], ◌∷◌, ◌++◌, length, get_or, Option, Some, None, Result, Ok}
use Rattle.std.proofs.Common.{Err, refl, sym, ap, subst, ◌∙◌, inl, inr, arith}
use Rattle.std.specs.Prelude.{codes, unwrap_or, MatchOption}
use Rattle.std.specs.Option.{option_map_or}
use Rattle.std.proofs.lemmas.Option.{same_Some}
use Rattle.cfs_model.specs.Limits.{most_processors}
use Rattle.std.proofs.lemmas.Option.{same_Some}
use Rattle.companion_file.specs.declared.fault.CompanionCause.{CompanionCause}
use Rattle.companion_file.specs.Shape.{Shape, version_line}
use Rattle.text_parts.specs.Lines.{IsComment}
use Rattle.companion_file.specs.Spelling.{IsFirstLine, IsSpelled}
use Rattle.companion_file.specs.Earlier.{Said, summed}
use Rattle.companion_file.specs.Tests.{fault_of, tested, IsJudgedFirst, IsJudgedLater, IsJudged}
use Rattle.companion_file.specs.Draft.{KeepsOrder}
use Rattle.companion_file.specs.Companion.{AreGood}
use Rattle.companion_file.proofs.Clip.{clip, fault_clip, same_without_fault}
use Rattle.companion_file.proofs.ReadShapes.{shape_again}
use Rattle.companion_file.proofs.Taking.{few_cpus}
use Rattle.companion_file.proofs.GoodLines.{order_judged}

-- so few processors that no number far out of its limits is one of them
few_of : (said : Said) → KeepsOrder said → unwrap_or said.cpus 0 ≤ most_processors
few_of said order = few_cpus said.cpus (λ n e. (order.cpus_kept n e).1)

tested_by : (said : Said) (x : Shape) (fault : Option CompanionCause) → fault_of said x ≡ fault
    → tested said x ≡ option_map_or (λ cause. Err cause) fault (Ok x)
tested_by said x fault e = ap (λ (f : Option CompanionCause). option_map_or (λ cause. Err cause) f (Ok x)) e

same_outcome : (said : Said) (x y : Shape) (fault : Option CompanionCause) → unwrap_or said.cpus 0 ≤ most_processors
    → clip x ≡ clip y → fault_of said x ≡ fault → fault_of said y ≡ fault → tested said x ≡ tested said y
same_outcome said x y None few same e f =
    let one : x ≡ y = sym (same_without_fault said x few e) ∙ same ∙ same_without_fault said y few f in
    ap (tested said) one
same_outcome said x y (Some cause) few same e f = tested_by said x (Some cause) e
    ∙ sym (tested_by said y (Some cause) f)

spelled_once : (version : ℕ) (said : Said) (line : List ℕ) (x y : Shape) → KeepsOrder said → IsSpelled version line x
    → IsSpelled version line y → tested said x ≡ tested said y
spelled_once version said line x y order p q =
    let few = few_of said order in
    let same : clip x ≡ clip y = same_Some (clip x) (clip y) (sym (shape_again version line x p)
    ∙ shape_again version line y q) in
    let faults : fault_of said y ≡ fault_of said x = sym (fault_clip said y few) ∙ ap (fault_of said) (sym same)
    ∙ fault_clip said x few in
    same_outcome said x y (fault_of said x) few same refl faults

later_once : (version : ℕ) (said : Said) (line : List ℕ) (r s : Result Shape CompanionCause) → KeepsOrder said
    → IsJudgedLater version said line r → IsJudgedLater version said line s → r ≡ s
later_once version said line r s order (inl p) (inl q) = p.1 ∙ sym q.1
later_once version said line r s order (inl p) (inr (inl q)) = absurd (q.0 p.0)
later_once version said line r s order (inl p) (inr (inr q)) = absurd (q.0 p.0)
later_once version said line r s order (inr (inl p)) (inl q) = absurd (p.0 q.0)
later_once version said line r s order (inr (inl p)) (inr (inl q)) = p.2 ∙ sym q.2
later_once version said line r s order (inr (inl p)) (inr (inr q)) = absurd (p.1 q.1.0 q.1.1)
later_once version said line r s order (inr (inr p)) (inl q) = absurd (p.0 q.0)
later_once version said line r s order (inr (inr p)) (inr (inl q)) = absurd (q.1 p.1.0 p.1.1)
later_once version said line r s order (inr (inr p)) (inr (inr q)) = p.1.2
    ∙ spelled_once version said line p.1.0 q.1.0 order p.1.1 q.1.1 ∙ sym q.1.2

-- the first lines differ in their digit
same_digit : (line one two : List ℕ) → line ≡ one → line ≡ two → get_or one 14 0 ≡ get_or two 14 0
same_digit line one two e f = ap (λ (s : List ℕ). get_or s 14 0) (sym e ∙ f)

first_or_second : (line : List ℕ) → line ≡ codes "cfs-companion 1" → line ≡ codes "cfs-companion 2" → ⊥
first_or_second line e f =
    let same : ◌≡◌ {A = ℕ} 49 50 = same_digit line (codes "cfs-companion 1") (codes "cfs-companion 2") e f in
    absurd (omega (arith, same))

first_or_third : (line : List ℕ) → line ≡ codes "cfs-companion 1" → line ≡ codes "cfs-companion 3" → ⊥
first_or_third line e f =
    let same : ◌≡◌ {A = ℕ} 49 51 = same_digit line (codes "cfs-companion 1") (codes "cfs-companion 3") e f in
    absurd (omega (arith, same))

second_or_third : (line : List ℕ) → line ≡ codes "cfs-companion 2" → line ≡ codes "cfs-companion 3" → ⊥
second_or_third line e f =
    let same : ◌≡◌ {A = ℕ} 50 51 = same_digit line (codes "cfs-companion 2") (codes "cfs-companion 3") e f in
    absurd (omega (arith, same))

-- a first line names one version
pub one_version : (line : List ℕ) (m n : ℕ) → IsFirstLine line m → IsFirstLine line n → m ≡ n
one_version line m n (inl p) (inl q) = p.1 ∙ sym q.1
one_version line m n (inl p) (inr (inl q)) = absurd (first_or_second line p.0 q.0)
one_version line m n (inl p) (inr (inr q)) = absurd (first_or_third line p.0 q.0)
one_version line m n (inr (inl p)) (inl q) = absurd (first_or_second line q.0 p.0)
one_version line m n (inr (inl p)) (inr (inl q)) = p.1 ∙ sym q.1
one_version line m n (inr (inl p)) (inr (inr q)) = absurd (second_or_third line p.0 q.0)
one_version line m n (inr (inr p)) (inl q) = absurd (first_or_third line q.0 p.0)
one_version line m n (inr (inr p)) (inr (inl q)) = absurd (second_or_third line q.0 p.0)
one_version line m n (inr (inr p)) (inr (inr q)) = p.1 ∙ sym q.1

first_once : (line : List ℕ) (r s : Result Shape CompanionCause) → IsJudgedFirst line r → IsJudgedFirst line s → r ≡ s
first_once line r s (inl p) (inl q) = p.2 ∙ ap (λ (n : ℕ). Ok (version_line n)) (one_version line p.0 q.0 p.1 q.1)
    ∙ sym q.2
first_once line r s (inl p) (inr q) = absurd (q.0 p.0 p.1)
first_once line r s (inr p) (inl q) = absurd (p.0 q.0 q.1)
first_once line r s (inr p) (inr q) = p.1 ∙ sym q.1

judged_once_at : (version : Option ℕ) (said : Said) (line : List ℕ) (r s : Result Shape CompanionCause)
    → KeepsOrder said → MatchOption version (IsJudgedFirst line r) (λ v. IsJudgedLater v said line r)
    → MatchOption version (IsJudgedFirst line s) (λ v. IsJudgedLater v said line s) → r ≡ s
judged_once_at (Some version) said line r s order p q = later_once version said line r s order p q
judged_once_at None said line r s order p q = first_once line r s p q

judged_once : (said : Said) (line : List ℕ) (r s : Result Shape CompanionCause) → KeepsOrder said → IsJudged said line r
    → IsJudged said line s → r ≡ s
judged_once said line r s order p q = judged_once_at said.version said line r s order p q

same_shape : (said : Said) (line : List ℕ) (x y : Shape) → KeepsOrder said → IsJudged said line (Ok x)
    → IsJudged said line (Ok y) → x ≡ y
same_shape said line x y order p q = let e = judged_once said line (Ok x) (Ok y) order p q in cc

same_companion_cause : (said : Said) (line : List ℕ) (c d : CompanionCause) → KeepsOrder said
    → IsJudged said line (Err c) → IsJudged said line (Err d) → c ≡ d
same_companion_cause said line c d order p q = let e = judged_once said line (Err c) (Err d) order p q in cc

never_both : (said : Said) (line : List ℕ) (x : Shape) (c : CompanionCause) → KeepsOrder said
    → IsJudged said line (Ok x) → IsJudged said line (Err c) → ⊥
never_both said line x c order p q = let e = judged_once said line (Ok x) (Err c) order p q in cc

-- ---- lines that are all good say one thing

pub good_once : (earlier : List Shape) (lines : List (List ℕ)) (said other : List Shape) → KeepsOrder (summed earlier)
    → AreGood earlier lines said → AreGood earlier lines other → said ≡ other
good_once earlier [] said other order p q = p ∙ sym q
good_once earlier (line ∷ lines) said other order (inl p) (inl q) = good_once earlier lines said other order p.1 q.1
good_once earlier (line ∷ lines) said other order (inl p) (inr q) = absurd (q.0 p.0)
good_once earlier (line ∷ lines) said other order (inr p) (inl q) = absurd (p.0 q.0)
good_once earlier (line ∷ lines) said other order (inr p) (inr q) =
    let same : q.1.0 ≡ p.1.0 = same_shape (summed earlier) line q.1.0 p.1.0 order q.1.1 p.1.1 in
    let moved = subst (λ (x : Shape). AreGood (earlier ++ x ∷ []) lines other) same q.1.2 in
    good_once (earlier ++ p.1.0 ∷ []) lines said other (order_judged earlier line p.1.0 order p.1.1) p.1.2 moved

-- ---- a bad line

-- a line that is bad after good ones
pub record IsBadBehind (earlier : List Shape) (before : List (List ℕ)) (line : List ℕ) (cause : CompanionCause) : Type 0
  where
    pub said : List Shape
    pub good : AreGood earlier before said
    pub content : ¬ IsComment line
    pub bad : IsJudged (summed said) line (Err cause)

-- the same without a comment in front, and without a good line
past_comment : (earlier : List Shape) (first : List ℕ) (before : List (List ℕ)) (line : List ℕ) (cause : CompanionCause)
    → IsComment first → IsBadBehind earlier (first ∷ before) line cause → IsBadBehind earlier before line cause
past_comment earlier first before line cause comment b =
    elim b.good [
      | inl p ↦ record { said = b.said; good = p.1; content = b.content; bad = b.bad }
      | inr p ↦ absurd (p.0 comment)
    ]

past_line : (earlier : List Shape) (first : List ℕ) (before : List (List ℕ)) (line : List ℕ) (cause : CompanionCause)
    (x : Shape) → KeepsOrder (summed earlier) → ¬ IsComment first → IsJudged (summed earlier) first (Ok x)
    → IsBadBehind earlier (first ∷ before) line cause → IsBadBehind (earlier ++ x ∷ []) before line cause
past_line earlier first before line cause x order content judged b =
    elim b.good [
      | inl p ↦ absurd (content p.0)
      | inr p ↦
          let same : p.1.0 ≡ x = same_shape (summed earlier) first p.1.0 x order p.1.1 judged in
          record {
            said = b.said;
            good = subst (λ (y : Shape). AreGood (earlier ++ y ∷ []) before b.said) same p.1.2;
            content = b.content;
            bad = b.bad;
          }
    ]

-- the line is bad where it stands first, so it isn't good there
bad_here : (earlier : List Shape) (line : List ℕ) (cause : CompanionCause) → IsBadBehind earlier [] line cause
    → IsJudged (summed earlier) line (Err cause)
bad_here earlier line cause b = subst (λ (s : List Shape). IsJudged (summed s) line (Err cause)) b.good b.bad

not_good : (earlier : List Shape) (line : List ℕ) (lines : List (List ℕ)) (said : List Shape) (cause : CompanionCause)
    → KeepsOrder (summed earlier) → IsBadBehind earlier [] line cause → AreGood earlier (line ∷ lines) said → ⊥
not_good earlier line lines said cause order b (inl p) = b.content p.0
not_good earlier line lines said cause order b (inr p) =
    never_both (summed earlier) line p.1.0 cause order p.1.1 (bad_here earlier line cause b)

pub never_good : (earlier : List Shape) (before : List (List ℕ)) (line : List ℕ) (after : List (List ℕ))
    (said : List Shape) (cause : CompanionCause) → KeepsOrder (summed earlier) → IsBadBehind earlier before line cause
    → AreGood earlier (before ++ line ∷ after) said → ⊥
never_good earlier [] line after said cause order b good = not_good earlier line after said cause order b good
never_good earlier (first ∷ before) line after said cause order b (inl p) =
    never_good earlier before line after said cause order (past_comment earlier first before line cause p.0 b) p.1
never_good earlier (first ∷ before) line after said cause order b (inr p) =
    never_good (earlier ++ p.1.0 ∷ []) before line after said cause (order_judged earlier first p.1.0 order p.1.1)
    (past_line earlier first before line cause p.1.0 order p.0 p.1.1 b) p.1.2

-- two bad lines that are the first ones stand at one place, for one cause
pub bad_once : (earlier : List Shape) (before others : List (List ℕ)) (line other : List ℕ) (after rest : List (List ℕ))
    (cause reason : CompanionCause) → KeepsOrder (summed earlier) → before ++ line ∷ after ≡ others ++ other ∷ rest
    → IsBadBehind earlier before line cause → IsBadBehind earlier others other reason
    → (length before ≡ length others) × (cause ≡ reason)
bad_once earlier [] [] line other after rest cause reason order e b c =
    let same : other ≡ line = cc in (
      refl,
      same_companion_cause (summed earlier) line cause reason order (bad_here earlier line cause b)
          (subst (λ (s : List ℕ). IsJudged (summed earlier) s (Err reason)) same (bad_here earlier other reason c)),
    )
bad_once earlier [] (first ∷ others) line other after rest cause reason order e b c =
    let same : first ≡ line = cc in
    absurd (not_good earlier line others c.said cause order b
    (subst (λ (s : List ℕ). AreGood earlier (s ∷ others) c.said) same c.good))
bad_once earlier (first ∷ before) [] line other after rest cause reason order e b c =
    let same : first ≡ other = cc in
    absurd (not_good earlier other before b.said reason order c
    (subst (λ (s : List ℕ). AreGood earlier (s ∷ before) b.said) same b.good))
bad_once earlier (first ∷ before) (second ∷ others) line other after rest cause reason order e b c =
    let same : second ≡ first = cc in
    let tails : before ++ line ∷ after ≡ others ++ other ∷ rest = cc in
    let moved = subst (λ (s : List ℕ). IsBadBehind earlier (s ∷ others) other reason) same c in
    elim b.good [
      | inl p ↦
          let r = bad_once earlier before others line other after rest cause reason order tails
          (past_comment earlier first before line cause p.0 b)
          (past_comment earlier first others other reason p.0 moved) in
          (ap suc r.0, r.1)
      | inr p ↦
          let r = bad_once (earlier ++ p.1.0 ∷ []) before others line other after rest cause reason
          (order_judged earlier first p.1.0 order p.1.1) tails
          (past_line earlier first before line cause p.1.0 order p.0 p.1.1 b)
          (past_line earlier first others other reason p.1.0 order p.0 p.1.1 moved) in
          (ap suc r.0, r.1)
    ]
