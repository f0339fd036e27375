-- The fields of an `at` line and of a `charge` line stand in the first line of a text, since no line ends in them; so
-- that line alone is read as the text is.
use Rattle.std.proofs.Common.{◌≡◌, ℕ, ◌+◌, ◌<◌, ◌≤◌, true, false, get_or, List, [], ◌∷◌, ◌++◌, length, min, ℤ}
use Rattle.std.proofs.Common.{Option, Some, None, refl, sym, ap, subst, ◌∙◌, append_assoc, arith, inl, inr}
use Rattle.std.specs.Prelude.{codes, unwrap_or, Result, IfSome}
use Rattle.std.specs.List.{before_first, after_first, position_or_len}
use Rattle.std.proofs.lemmas.Bool.Decides.{nat_tests}
use Rattle.std.proofs.lemmas.List.{append-nil, length-drop}
use Rattle.cfs_model.specs.Limits.{most_processors}
use Rattle.cfs_model.specs.declared.claim.ClaimSort.TheVariants.{At}
use Rattle.text_parts.specs.Lines.{is_line_feed, is_comment, IsComment, lines_of}
use Rattle.text_parts.specs.Numerals.{is_digit, many, IsNumeral}
use Rattle.text_parts.specs.Unbroken.{IsUnbroken}
use Rattle.text_parts.specs.Reading.{after_text}
use Rattle.text_parts.proofs.Runs.{text_taken}
use Rattle.text_parts.proofs.TextLines.{lines_of_next}
use Rattle.text_parts.proofs.Unbroken.{unbroken_append, unbroken_run, first_line_behind, rest_behind}
use Rattle.companion_file.specs.declared.fault.Refusal.{Refusal}
use Rattle.companion_file.specs.declared.usual_line.UsualLine.{UsualLine}
use Rattle.companion_file.specs.Draft.{AddsTested, Takes}
use Rattle.companion_file.specs.Earlier.{Said}
use Rattle.companion_file.specs.Shape.{Shape, charge_line, claim_line}
use Rattle.companion_file.specs.Spelling.{IsNumber, IsInteger, IsControlGroup}
use Rattle.companion_file.specs.ShapeReading.{number_field, integer_at, charge_shape_at, claim_shape_at, shape_at}
use Rattle.companion_file.specs.Usual.{HasFields, HasLine}
use Rattle.companion_file.proofs.Clip.{clip_integer}
use Rattle.companion_file.proofs.ReadFields.{spaced_from, number_field_again, integer_whole_again, number_field_taken}
use Rattle.companion_file.proofs.ReadFields.{integer_at_taken}
use Rattle.companion_file.proofs.ReadShapes.{charge_tried, claim_tried, not_below, same_charge, same_claim}
use Rattle.companion_file.proofs.Taking.{later_taken}

-- ---- no line ends in a field

digit_unbroken : (byte : ℕ) → is_digit byte ≡ true → is_line_feed byte ≡ false
digit_unbroken byte e = grind (arith, nat_tests)

digits_unbroken : (word : List ℕ) → IsNumeral word → IsUnbroken word
digits_unbroken word is = unbroken_run is_digit digit_unbroken word is.all

integer_unbroken : (word : List ℕ) (z : ℤ) → IsInteger word z → IsUnbroken word
integer_unbroken word z (inl p) = digits_unbroken word p.1.digits
integer_unbroken word z (inr p) = rw (p.3, digits_unbroken p.0 p.2.digits) refl

spaced_unbroken : (word rest : List ℕ) → IsUnbroken word → IsUnbroken rest → IsUnbroken (spaced_from word rest)
spaced_unbroken word rest a b = unbroken_append word (32 ∷ rest) a (unbroken_append (32 ∷ []) rest refl b)

-- ---- the fields

-- one behind the other
abbrev three_fields : List ℕ → List ℕ → List ℕ → List ℕ
three_fields line pid v = spaced_from line (spaced_from pid v)

claim_read : (a b c : List ℕ) (line pid : ℕ) (v : ℤ) → IsNumber a line → IsNumber b pid → IsInteger c v
    → claim_shape_at At (three_fields a b c)
    ≡ Some (claim_line (record { line = min line many; pid = min pid many; v = clip_integer v; sort = At }))
unfolding claim_shape_at
claim_read a b c line pid v is_line is_pid is_v = rw (
  number_field_again a (spaced_from b c) line is_line,
  number_field_again b c pid is_pid,
  integer_whole_again c v is_v,
) refl

charge_read : (version : ℕ) (a b c : List ℕ) (line pid : ℕ) (v : ℤ) → 3 ≤ version → IsNumber a line → IsNumber b pid
    → IsInteger c v → charge_shape_at version (three_fields a b c)
    ≡ Some (charge_line (record { line = min line many; pid = min pid many; v = clip_integer v }))
unfolding charge_shape_at
charge_read version a b c line pid v has is_line is_pid is_v = rw (
  not_below 3 version has,
  number_field_again a (spaced_from b c) line is_line,
  number_field_again b c pid is_pid,
  integer_whole_again c v is_v,
) refl

-- a text that begins with them
fields_front : (text after_line after_pid after_v a b c : List ℕ) → text ≡ a ++ 32 ∷ after_line
    → after_line ≡ b ++ 32 ∷ after_pid → after_pid ≡ c ++ after_v → text ≡ three_fields a b c ++ after_v
fields_front text after_line after_pid after_v a b c is_line is_pid is_v =
    is_line ∙ ap (λ (s : List ℕ). spaced_from a s) (is_pid ∙ ap (λ (s : List ℕ). spaced_from b s) is_v
    ∙ sym (append_assoc b (32 ∷ c) after_v)) ∙ sym (append_assoc a (32 ∷ spaced_from b c) after_v)

pub fields_stand : (text after_line after_pid after_v rest : List ℕ) (line pid : ℕ) (v : ℤ)
    → number_field text ≡ Some (line, after_line) → number_field after_line ≡ Some (pid, after_pid)
    → integer_at after_pid ≡ Some (v, after_v) → before_first is_line_feed after_v ≡ []
    → rest ≡ after_first is_line_feed after_v → HasFields text line pid v rest
fields_stand text after_line after_pid after_v rest line pid v first second third ends rest_is =
    let a = number_field_taken text line after_line first in
    let b = number_field_taken after_line pid after_pid second in
    let c = integer_at_taken after_pid v after_v third in
    let front = three_fields a.word b.word c.word in
    let whole : text ≡ front ++ after_v =
    fields_front text after_line after_pid after_v a.word b.word c.word a.whole b.whole c.whole in
    let unbroken : IsUnbroken front =
    spaced_unbroken a.word (spaced_from b.word c.word) (digits_unbroken a.word a.spelled.digits)
    (spaced_unbroken b.word c.word (digits_unbroken b.word b.spelled.digits)
    (integer_unbroken c.word c.exact c.spelled)) in
    let alone : before_first is_line_feed text ≡ front = ap (before_first is_line_feed) whole
    ∙ first_line_behind front after_v unbroken ∙ ap (λ (s : List ℕ). front ++ s) ends ∙ append-nil front in
    record {
      claimed = ap (claim_shape_at At) alone
          ∙ claim_read a.word b.word c.word a.exact b.exact c.exact a.spelled b.spelled c.spelled
          ∙ ap (λ (x : Shape). Some x) (sym (same_claim line (min a.exact many) pid (min b.exact many) v
          (clip_integer c.exact) At a.value b.value c.value));
      charged = λ version has. ap (charge_shape_at version) alone
          ∙ charge_read version a.word b.word c.word a.exact b.exact c.exact has a.spelled b.spelled c.spelled
          ∙ ap (λ (x : Shape). Some x) (sym (same_charge line (min a.exact many) pid (min b.exact many) v
          (clip_integer c.exact) a.value b.value c.value));
      rest_is = rest_is ∙ sym (ap (after_first is_line_feed) whole ∙ rest_behind front after_v unbroken);
    }

-- ---- behind a word in which no line ends either

pub line_stands : (word text fields : List ℕ) → after_text word text ≡ Some fields → (found : Option UsualLine)
    → IfSome found (λ said. HasFields fields said.line said.pid said.v said.rest.now)
    → IfSome found (λ said. HasLine word text said.line said.pid said.v said.rest.now)
line_stands word text fields e None h = h
line_stands word text fields e (Some said) h =
    record { fields = fields; begins = text_taken word text fields e; has = h }

line_begins : (word text rest : List ℕ) (line pid : ℕ) (v : ℤ) → IsUnbroken word
    → (has : HasLine word text line pid v rest)
    → before_first is_line_feed text ≡ word ++ before_first is_line_feed has.fields
line_begins word text rest line pid v unbroken has =
    ap (before_first is_line_feed) has.begins ∙ first_line_behind word has.fields unbroken

line_leaves : (word text rest : List ℕ) (line pid : ℕ) (v : ℤ) → IsUnbroken word → HasLine word text line pid v rest
    → rest ≡ after_first is_line_feed text
line_leaves word text rest line pid v unbroken has =
    has.has.rest_is ∙ sym (ap (after_first is_line_feed) has.begins ∙ rest_behind word has.fields unbroken)

-- ---- what becomes of an `at` line

at_is_no_comment : (line fields : List ℕ) → line ≡ codes "at " ++ fields → IsComment line → ⊥
unfolding is_comment
at_is_no_comment line fields e comment =
    let here : is_comment (codes "at " ++ fields) ≡ true = subst IsComment e comment in
    absurd cc

at_is_no_group : (line fields : List ℕ) → line ≡ codes "at " ++ fields → IsControlGroup line → ⊥
at_is_no_group line fields e (inl group) =
    let first : 97 ≡ 99 = ap (λ (s : List ℕ). get_or s 0 0) (sym e ∙ group) in omega (arith, first)
at_is_no_group line fields e (inr (rest, group)) =
    let first : 97 ≡ 99 = ap (λ (s : List ℕ). get_or s 0 0) (sym e ∙ group) in omega (arith, first)

pub claim_taken : (version : ℕ) (old new : Said) (text rest : List ℕ) (line pid : ℕ) (v : ℤ) (r : Result Unit Refusal)
    → old.version ≡ Some version → unwrap_or old.cpus 0 ≤ most_processors
    → HasLine (codes "at ") text line pid v rest
    → AddsTested old (claim_line (record { line = line; pid = pid; v = v; sort = At })) r new
    → Takes old (before_first is_line_feed text) r new
claim_taken version old new text rest line pid v r begun few has adds =
    let first = before_first is_line_feed text in
    let fields = before_first is_line_feed has.fields in
    let begins : first ≡ codes "at " ++ fields = line_begins (codes "at ") text rest line pid v refl has in
    later_taken version old first (claim_line (record { line = line; pid = pid; v = v; sort = At })) r new
    (at_is_no_comment first fields begins) begun (at_is_no_group first fields begins) few
    (ap (shape_at version) begins ∙ claim_tried version At fields ∙ has.has.claimed) adds

-- ---- and of a `charge` line

charge_is_no_comment : (line fields : List ℕ) → line ≡ codes "charge " ++ fields → IsComment line → ⊥
unfolding is_comment
charge_is_no_comment line fields e comment =
    let here : is_comment (codes "charge " ++ fields) ≡ true = subst IsComment e comment in
    absurd cc

charge_is_no_group : (line fields : List ℕ) → line ≡ codes "charge " ++ fields → IsControlGroup line → ⊥
charge_is_no_group line fields e (inl group) =
    let second : 104 ≡ 103 = ap (λ (s : List ℕ). get_or s 1 0) (sym e ∙ group) in omega (arith, second)
charge_is_no_group line fields e (inr (rest, group)) =
    let second : 104 ≡ 103 = ap (λ (s : List ℕ). get_or s 1 0) (sym e ∙ group) in omega (arith, second)

pub charge_taken : (version : ℕ) (old new : Said) (text rest : List ℕ) (line pid : ℕ) (v : ℤ)
    (r : Result Unit Refusal) → old.version ≡ Some version → 3 ≤ version → unwrap_or old.cpus 0 ≤ most_processors
    → HasLine (codes "charge ") text line pid v rest
    → AddsTested old (charge_line (record { line = line; pid = pid; v = v })) r new
    → Takes old (before_first is_line_feed text) r new
charge_taken version old new text rest line pid v r begun told few has adds =
    let first = before_first is_line_feed text in
    let fields = before_first is_line_feed has.fields in
    let begins : first ≡ codes "charge " ++ fields = line_begins (codes "charge ") text rest line pid v refl has in
    later_taken version old first (charge_line (record { line = line; pid = pid; v = v })) r new
    (charge_is_no_comment first fields begins) begun (charge_is_no_group first fields begins) few
    (ap (shape_at version) begins ∙ charge_tried version fields ∙ has.has.charged version told) adds

-- ---- what follows such a line

pub rest_lines : (word text rest : List ℕ) (line pid : ℕ) (v : ℤ) → 0 < length text → IsUnbroken word
    → HasLine word text line pid v rest → lines_of text ≡ before_first is_line_feed text ∷ lines_of rest
rest_lines word text rest line pid v some unbroken has = lines_of_next text some
    ∙ ap (λ (s : List ℕ). before_first is_line_feed text ∷ lines_of s)
    (sym (line_leaves word text rest line pid v unbroken has))

pub rest_shorter : (word text rest : List ℕ) (line pid : ℕ) (v : ℤ) → 0 < length text → IsUnbroken word
    → HasLine word text line pid v rest → length rest < length text
rest_shorter word text rest line pid v some unbroken has =
    omega (
      arith,
      some,
      ap length (line_leaves word text rest line pid v unbroken has),
      length-drop (position_or_len is_line_feed text + 1) text,
    )
