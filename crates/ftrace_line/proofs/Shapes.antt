-- What the shape of a line settles: its first seventeen bytes stay whatever follows, so where they aren't those of a
-- head, and no notice of lost events begins there, none comes.
use Rattle.std.proofs.Common.{◌≡◌, ℕ, ◌<◌, ◌≤◌, Bool, true, false, List, [], ◌∷◌, ◌++◌, length, take, drop}
use Rattle.std.proofs.Common.{Some, None, Result, Ok, Err, refl, sym, ap, ◌∙◌, subst, arith, append_assoc, codes}
use Rattle.std.specs.Bool.{OnTrue}
use Rattle.std.proofs.lemmas.Bool.{false_from_ne_true, false≢true}
use Rattle.std.proofs.lemmas.List.{take_at, take-append-drop, take-append-le, append-nil, length-append}
use Rattle.text_parts.specs.Lines.{is_comment, IsComment}
use Rattle.text_parts.specs.Pieces.{begins_with}
use Rattle.text_parts.proofs.Fronts.{begins_own, front_then_rest}
use Rattle.ftrace_line.specs.declared.fault.LineFault.{LineFault}
use Rattle.ftrace_line.specs.declared.fault.LineFault.TheVariants.{BadHead}
use Rattle.ftrace_line.specs.Front.{IsSettled, IsShapeless}
use Rattle.ftrace_line.specs.Line.{LineAnswer, LineView, comment, IsHeadless}
use Rattle.ftrace_line.specs.Meaning.{after_name}
use Rattle.ftrace_line.proofs.HeadParts.{head_name_again, name_taken}
use Rattle.ftrace_line.proofs.OneReading.{answers_agree}

-- bytes that stand in front of a line stand in front of a beginning that is as long
front_here : (front line more rest : List ℕ) → length front ≤ length line → line ++ more ≡ front ++ rest
    → line ≡ front ++ drop (length front) line
front_here front line more rest long whole =
    let size : ℕ = length front in
    let there : take size line ≡ front =
    sym (take-append-le size line more long) ∙ ap (take size) whole ∙ take_at front rest size refl in
    sym (take-append-drop (length front) line) ∙ ap (λ (t : List ℕ). t ++ drop (length front) line) there

-- a line that has this meaning whatever follows
settles : (line : List ℕ) (answer : Result LineView LineFault) → 0 < length line → LineAnswer line answer
    → ((more : List ℕ) → LineAnswer (line ++ more) answer) → IsSettled line
settles line answer some here on =
    record {
      some = some;
      same = λ other more says.
          subst (LineAnswer (line ++ more)) (answers_agree line answer other here says) (on more);
    }

comment_on : (line more : List ℕ) → 0 < length line → IsComment line → IsComment (line ++ more)
unfolding is_comment
comment_on [] more some is = absurd (omega (arith, some))
comment_on (b ∷ line) more some is = is

no_comment_on : (line more : List ℕ) → (IsComment line → ⊥) → IsComment (line ++ more) → ⊥
unfolding is_comment
no_comment_on [] more none is = none refl
no_comment_on (b ∷ line) more none is = none is

pub comment_settled : (line : List ℕ) → 0 < length line → IsComment line → IsSettled line
comment_settled line some is = settles line (Ok comment) some is (λ more. comment_on line more some is)

headless_on : (line more : List ℕ) → (IsComment line → ⊥) → IsShapeless line → IsHeadless (line ++ more)
headless_on line more plain s = record {
  no_comment = no_comment_on line more plain;
  no_loss = λ l. s.no_loss _ (front_here (codes "CPU:") line more _ (omega (arith, s.long)) l.whole);
  no_head = λ cpu seconds nanoseconds text h.
      let front : List ℕ = 32 ∷ (h.name ++ (45 ∷ [])) in
      let behind : List ℕ = drop (length front) line in
      let size : length front ≡ 17 = omega (arith, length-append h.name (45 ∷ []), h.name_width) in
      s.no_event h.name behind h.name_width
      (front_here front line more _ (omega (arith, s.long, size))
      (h.whole ∙ ap (λ (t : List ℕ). 32 ∷ t) (sym (append_assoc h.name (45 ∷ []) _)))
      ∙ ap (λ (t : List ℕ). 32 ∷ t) (append_assoc h.name (45 ∷ []) behind));
}

pub shapeless_settled : (line : List ℕ) → (IsComment line → ⊥) → IsShapeless line → IsSettled line
shapeless_settled line plain s =
    settles line (Err BadHead) (omega (arith, s.long))
    (subst IsHeadless (append-nil line) (headless_on line [] plain s)) (λ more. headless_on line more plain s)

-- ---- the test of a shape

pub shaped : (line rest : List ℕ) → after_name line ≡ Some rest → IsShapeless line → ⊥
shaped line rest e s = let n = name_taken line rest e in s.no_event n.0 rest n.1 n.2

pub shapeless : (line : List ℕ) → after_name line ≡ None → 16 < length line
    → begins_with (codes "CPU:") line ≡ false → IsShapeless line
shapeless line none long plain = record {
  long = long;
  no_event = λ name rest width whole. let found = ap after_name whole ∙ head_name_again name rest width in absurd cc;
  no_loss = λ rest whole.
      false≢true (sym plain ∙ ap (begins_with (codes "CPU:")) whole ∙ begins_own (codes "CPU:") rest);
}

pub no_notice : (line : List ℕ) → IsShapeless line → begins_with (codes "CPU:") line ≡ false
no_notice line s =
    let front : List ℕ = codes "CPU:" in
    false_from_ne_true (begins_with front line) (λ e. s.no_loss _ (front_then_rest front line e))

-- what holds where a test is passed
pub on_true : {P : Type 0} (b : Bool) → (b ≡ true → P) → OnTrue b P
on_true true holds = holds refl
on_true false holds = tt
