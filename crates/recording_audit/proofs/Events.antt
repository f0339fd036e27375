-- How many of a text's lines are events.
use Rattle.std.proofs.Common.{◌≡◌, ℕ, ◌+◌, List, ◌∷◌, length, Result, Ok, inl, refl, subst, sym, ap, ◌∙◌, arith}
use Rattle.std.proofs.lemmas.List.{nil_from_length}
use Rattle.ftrace_line.specs.Line.{LineAnswer, LineView, sched}
use Rattle.ftrace_line.specs.declared.fault.LineFault.{LineFault}
use Rattle.ftrace_line.specs.declared.kinds.Which.{Which}
use Rattle.text_parts.specs.Lines.{lines_of}
use Rattle.text_parts.proofs.TextLines.{lines_of_nil}
use Rattle.recording_audit.specs.Causes.{HaveEvents, IsEvent}

-- a line that reads otherwise is none
pub no_event : ((line : List ℕ) (a b : Result LineView LineFault) → LineAnswer line a → LineAnswer line b → a ≡ b)
    → (line : List ℕ) (other : Result LineView LineFault) → LineAnswer line other
    → ((cpu time : ℕ) (which : Which) (rest : List ℕ) → other ≡ Ok (sched cpu time which rest) → ⊥) → IsEvent line → ⊥
no_event law line other reads differs event =
    differs event.cpu event.time event.which event.rest
    (law line other (Ok (sched event.cpu event.time event.which event.rest)) reads event.reads)

-- one more event stands in front
pub one_more : (text rest after line : List ℕ) (count left : ℕ)
    → ((left : ℕ) → HaveEvents (lines_of rest) left → HaveEvents (lines_of text) (count + left))
    → lines_of rest ≡ line ∷ lines_of after → IsEvent line → HaveEvents (lines_of after) left
    → HaveEvents (lines_of text) (count + 1 + left)
one_more text rest after line count left whole next event have =
    let here : HaveEvents (line ∷ lines_of after) (left + 1) = inl (event, (left, refl, have)) in
    let same : count + (left + 1) ≡ count + 1 + left = omega arith in
    subst (HaveEvents (lines_of text)) same
    (whole (left + 1) (subst (λ lines. HaveEvents lines (left + 1)) (sym next) here))

-- nothing is left
pub all_events : (text rest : List ℕ) (count : ℕ)
    → ((left : ℕ) → HaveEvents (lines_of rest) left → HaveEvents (lines_of text) (count + left)) → length rest ≡ 0
    → HaveEvents (lines_of text) count
all_events text rest count whole none =
    let no_line = ap lines_of (nil_from_length rest none) ∙ lines_of_nil in
    let here : HaveEvents (lines_of rest) 0 = subst (λ lines. HaveEvents lines 0) (sym no_line) refl in
    let same : count + 0 ≡ count = omega arith in
    subst (HaveEvents (lines_of text)) same (whole 0 here)
