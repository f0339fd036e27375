-- The four labels, both ways: no label stands in front of another.
use Rattle.std.proofs.Common.{◌≡◌, ◌≤◌, ℕ, Bool, true, false, cond, List, ◌++◌, length, Option, Some, None, refl, ap}
use Rattle.std.proofs.Common.{arith, length-append}
use Rattle.ftrace_line.specs.declared.kinds.Which.{Which}
use Rattle.ftrace_line.specs.declared.kinds.Which.TheVariants.{Switch, Wakeup, WakeupNew, MigrateTask}
use Rattle.std.proofs.lemmas.Option.{same_Some}
use Rattle.text_parts.specs.Pieces.{begins_with}
use Rattle.ftrace_line.specs.Line.{label_of}
use Rattle.ftrace_line.specs.Meaning.{kind_at, fields_of}
use Rattle.text_parts.proofs.Runs.{none_from}
use Rattle.text_parts.proofs.Fronts.{front_then_rest}

-- a text behind a label is read as that event
pub label_again : (which : Which) (rest : List ℕ) → kind_at (label_of which ++ rest) ≡ Some which
unfolding kind_at
label_again Switch rest = refl
label_again Wakeup rest = refl
label_again WakeupNew rest = refl
label_again MigrateTask rest = refl

-- and its fields are what follows the label
pub fields_again : (which : Which) (rest : List ℕ) → fields_of which (label_of which ++ rest) ≡ rest
fields_again Switch rest = refl
fields_again Wakeup rest = refl
fields_again WakeupNew rest = refl
fields_again MigrateTask rest = refl

-- a choice that gave this kind was made by its label, or later
by_label : (text : List ℕ) (which found : Which) (later : Option Which)
    → (later ≡ Some found → begins_with (label_of found) text ≡ true) →
    (b : Bool) → begins_with (label_of which) text ≡ b → cond b (Some which) later ≡ Some found
    → begins_with (label_of found) text ≡ true
by_label text which found later on true there e = rw (← same_Some which found e) there
by_label text which found later on false there e = on e

-- what was read as an event begins with its label
pub label_there : (text : List ℕ) (which : Which) → kind_at text ≡ Some which → begins_with (label_of which) text ≡ true
unfolding kind_at
label_there text which e =
    by_label text Switch which _ (λ e.
    by_label text Wakeup which _ (λ e.
    by_label text WakeupNew which _ (λ e.
    by_label text MigrateTask which None (λ e. absurd cc)
    (begins_with (label_of MigrateTask) text) refl e)
    (begins_with (label_of WakeupNew) text) refl e)
    (begins_with (label_of Wakeup) text) refl e)
    (begins_with (label_of Switch) text) refl e

-- it stands behind its label
pub label_taken : (text : List ℕ) (which : Which) → kind_at text ≡ Some which → text ≡ label_of which
    ++ fields_of which text
label_taken text which e = front_then_rest (label_of which) text (label_there text which e)

-- and is as long as its label, or longer
pub label_within : (text : List ℕ) (which : Which) → kind_at text ≡ Some which → length (label_of which) ≤ length text
label_within text which e = omega (
  arith,
  ap length (label_taken text which e),
  length-append (label_of which)
      (fields_of which text),
)

-- a text without a label is another event's
pub unlabelled_again : (text : List ℕ) → ((which : Which) (rest : List ℕ) → text ≡ label_of which ++ rest → ⊥)
    → kind_at text ≡ None
unlabelled_again text none = none_from (kind_at text)
    (λ which e. none which (fields_of which text) (label_taken text which e))

pub unlabelled_taken : (text : List ℕ) → kind_at text ≡ None → (which : Which) (rest : List ℕ) → text ≡ label_of which
    ++ rest → ⊥
unlabelled_taken text e which rest whole = let found = label_again which rest in cc
