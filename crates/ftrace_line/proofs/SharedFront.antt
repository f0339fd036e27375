-- The four events' names have a front in common: which of them a text begins with, behind that front.
use Rattle.std.proofs.Common.{◌≡◌, ℕ, false, List, [], ◌∷◌, ◌++◌, length, drop, Some, None}
use Rattle.std.proofs.Common.{refl, sym, ap, ◌∙◌, append_assoc, codes}
use Rattle.std.proofs.lemmas.Bool.{false_from_ne_true, eq-eqb}
use Rattle.text_parts.specs.Pieces.{begins_with}
use Rattle.text_parts.specs.Reading.{after_text}
use Rattle.text_parts.proofs.Fronts.{front_then_rest}
use Rattle.text_parts.proofs.Runs.{text_taken, text_again}
use Rattle.ftrace_line.specs.Meaning.{kind_at, kind_by_name}

-- behind a front that stands there, the rest of a label decides
behind_front : (front more rest : List ℕ) → begins_with (front ++ more) (front ++ rest) ≡ begins_with more rest
behind_front [] more rest = refl
behind_front (byte ∷ front) more rest = rw (eq-eqb byte byte refl) (behind_front front more rest)

-- where the front doesn't stand, no label does
no_front : (front more text : List ℕ) → after_text front text ≡ None → begins_with (front ++ more) text ≡ false
no_front front more text none =
    false_from_ne_true (begins_with (front ++ more) text) (λ there.
    let whole : text ≡ front ++ (more ++ drop (length (front ++ more)) text) =
    front_then_rest (front ++ more) text there ∙ append_assoc front more (drop (length (front ++ more)) text) in
    let found = ap (after_text front) whole ∙ text_again front (more ++ drop (length (front ++ more)) text) in
    absurd (let e = sym none ∙ found in cc))

pub kind_behind_front : (text rest : List ℕ) → after_text (codes "sched_") text ≡ Some rest
    → kind_at text ≡ kind_by_name rest
unfolding kind_at
kind_behind_front text rest e =
    let front : List ℕ = codes "sched_" in
    rw (
      text_taken front text rest e,
      behind_front front (codes "switch: ") rest,
      behind_front front (codes "wakeup: ") rest,
      behind_front front (codes "wakeup_new: ") rest,
      behind_front front (codes "migrate_task: ") rest,
    ) refl

pub no_kind : (text : List ℕ) → after_text (codes "sched_") text ≡ None → kind_at text ≡ None
unfolding kind_at
no_kind text none =
    let front : List ℕ = codes "sched_" in
    rw (
      no_front front (codes "switch: ") text none,
      no_front front (codes "wakeup: ") text none,
      no_front front (codes "wakeup_new: ") text none,
      no_front front (codes "migrate_task: ") text none,
    ) refl
