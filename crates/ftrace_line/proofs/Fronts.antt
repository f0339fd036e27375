-- A head and a label at the front of a text: no line ends in them, and whatever follows them, they are a line's head
-- and label. So the text's first line is an event's.
use Rattle.std.proofs.Common.{◌≡◌, ℕ, ◌+◌, ◌*◌, ◌≤◌, true, false, eqb, leb, List, [], ◌∷◌, ◌++◌, length, take, drop}
use Rattle.std.proofs.Common.{Some, None, refl, sym, ap, subst, ◌∙◌, inl, inr, arith, append_assoc, codes}
use Rattle.std.specs.Prelude.{IsTrue, nat_lt}
use Rattle.std.specs.List.{list_all, before_first, position_or_len}
use Rattle.std.proofs.lemmas.Bool.{and_parts, and_from, eqb-true, ltb-true, ne_eqb, leb-true}
use Rattle.std.proofs.lemmas.Bool.{not-true}
use Rattle.std.proofs.lemmas.List.{take_at, take-append-drop, length-append}
use Rattle.text_parts.specs.Lines.{is_line_feed}
use Rattle.text_parts.specs.Unbroken.{IsUnbroken}
use Rattle.text_parts.specs.Numerals.{is_digit, value_of, IsNumeral}
use Rattle.text_parts.specs.Pieces.{IsRunOf, joined, is_space, IsGap}
use Rattle.text_parts.specs.Time.{IsTime}
use Rattle.text_parts.proofs.Times.{TakesFraction}
use Rattle.text_parts.proofs.Unbroken.{unbroken_append, unbroken_run, joined_behind, joined_unbroken}
use Rattle.cfs_model.specs.Limits.{greatest_processor, greatest_seconds, nanoseconds_per_second}
use Rattle.ftrace_line.specs.declared.kinds.Which.{Which}
use Rattle.ftrace_line.specs.declared.kinds.Which.TheVariants.{Switch, Wakeup, WakeupNew, MigrateTask}
use Rattle.ftrace_line.specs.Head.{is_group_byte, IsThreadGroup, is_flag}
use Rattle.ftrace_line.specs.Clock.{is_mark, HasFlags, HasSeconds}
use Rattle.ftrace_line.specs.Line.{label_of, IsEventLine}
use Rattle.ftrace_line.specs.Meaning.{kind_at, fields_of}
use Rattle.ftrace_line.specs.Usual.{HasName, HasHead, HasFront}
use Rattle.ftrace_line.proofs.HeadParts.{TakesProcessor}
use Rattle.ftrace_line.proofs.Labels.{label_taken, unlabelled_taken}

-- ---- bytes that are no line feeds

digit_unbroken : (byte : ℕ) → is_digit byte ≡ true → is_line_feed byte ≡ false
digit_unbroken byte e =
    ne_eqb byte 10 (λ same. omega (arith, leb-true 48 byte (and_parts (leb 48 byte) (leb byte 57) e).0))

space_unbroken : (byte : ℕ) → is_space byte ≡ true → is_line_feed byte ≡ false
space_unbroken byte e = rw (eqb-true byte 32 e) refl

group_byte_unbroken : (byte : ℕ) → is_group_byte byte ≡ true → is_line_feed byte ≡ false
group_byte_unbroken byte e =
    ne_eqb byte 10 (λ same.
    let line : is_group_byte 10 ≡ true = subst (λ (b : ℕ). is_group_byte b ≡ true) same e in absurd cc)

pub mark_unbroken : (byte : ℕ) → is_mark byte ≡ true → is_line_feed byte ≡ false
mark_unbroken byte e =
    ne_eqb byte 10 (λ same. let line : is_mark 10 ≡ true = subst (λ (b : ℕ). is_mark b ≡ true) same e in absurd cc)

pub digits_unbroken : (s : List ℕ) → IsNumeral s → IsUnbroken s
digits_unbroken s is = unbroken_run is_digit digit_unbroken s is.all

pub gap_unbroken : (s : List ℕ) → IsGap s → IsUnbroken s
gap_unbroken s is = unbroken_run is_space space_unbroken s is.all

column_unbroken : (s : List ℕ) → IsThreadGroup s → IsUnbroken s
column_unbroken s (inl none) = rw none refl
column_unbroken s (inr (group, gap, run, space, whole)) =
    subst IsUnbroken (sym whole) (joined_unbroken (codes "(" ∷ group ∷ codes ")" ∷ gap ∷ [])
    (refl, (unbroken_run is_group_byte group_byte_unbroken group run.all, (refl, (gap_unbroken gap space, tt)))))

time_unbroken : (s : List ℕ) (seconds nanoseconds : ℕ) → IsTime s seconds nanoseconds → IsUnbroken s
time_unbroken s seconds nanoseconds t =
    subst IsUnbroken (sym t.whole) (joined_unbroken (t.whole_digits ∷ codes "." ∷ t.fraction_digits ∷ []) (
      digits_unbroken t.whole_digits t.whole_numeral,
      (refl, (digits_unbroken t.fraction_digits t.fraction_numeral, tt)),
    ))

label_unbroken : (which : Which) → IsUnbroken (label_of which)
label_unbroken Switch = refl
label_unbroken Wakeup = refl
label_unbroken WakeupNew = refl
label_unbroken MigrateTask = refl

-- ---- flags

mark_is_flag : (byte : ℕ) → is_mark byte ≡ true → is_flag byte ≡ true
mark_is_flag byte e =
    let p = and_parts (nat_lt 32 byte) _ e in
    let no_colon : eqb byte 58 ≡ false = not-true (eqb byte 58) p.1 in
    let no_space : eqb byte 32 ≡ false = ne_eqb byte 32 (λ same. omega (arith, ltb-true 32 byte p.0)) in
    rw (no_space, no_colon) refl

marks_are_flags : (s : List ℕ) → IsTrue (list_all is_mark s) → IsTrue (list_all is_flag s)
marks_are_flags [] all = refl
marks_are_flags (byte ∷ s) all =
    let p = and_parts (is_mark byte) (list_all is_mark s) all in
    and_from (is_flag byte) (list_all is_flag s) (mark_is_flag byte p.0) (marks_are_flags s p.1)

pub no_flags : (text : List ℕ) → HasFlags text text
no_flags text = record { flags = []; form = inl refl; unbroken = refl; parts = refl }

pub flags_stand : (text marks gap rest : List ℕ) → IsRunOf is_mark marks → IsGap gap → text ≡ marks ++ (gap ++ rest)
    → HasFlags text rest
flags_stand text marks gap rest run space parts = record {
  flags = marks ++ gap;
  form = inr (marks, gap, record { some = run.some; all = marks_are_flags marks run.all }, space, refl);
  unbroken = unbroken_append marks gap (unbroken_run is_mark mark_unbroken marks run.all) (gap_unbroken gap space);
  parts = parts ∙ sym (append_assoc marks gap rest);
}

-- ---- the name

pub name_stands : (text name rest : List ℕ) → length name ≡ 15 → text ≡ 32 ∷ (name ++ (45 ∷ rest))
    → IsUnbroken (take 16 text) → HasName text rest
name_stands text name rest width parts unbroken =
    let long : 32 ∷ (name ++ (45 ∷ rest)) ≡ (32 ∷ name) ++ (45 ∷ rest) = refl in
    let front : take 16 text ≡ 32 ∷ name =
    ap (take 16) (parts ∙ long) ∙ take_at (32 ∷ name) (45 ∷ rest) 16 (omega (arith, width)) in
    record { name = name; width = width; unbroken = subst IsUnbroken front unbroken; parts = parts }

-- ---- the head

pub record HeadSteps (text : List ℕ) (cpu seconds nanoseconds : ℕ) (rest : List ℕ) : Type 0 where
  pub pid : List ℕ
  pub pid_gap : List ℕ
  pub group : List ℕ
  pub bracket : List ℕ
  pub clock : List ℕ
  pub fraction : List ℕ
  pub name : HasName text pid
  pub digits : (w : List ℕ) × IsNumeral w × (pid ≡ w ++ pid_gap)
  pub space : (w : List ℕ) × IsGap w × (pid_gap ≡ w ++ group)
  pub column : (w : List ℕ) × IsThreadGroup w × (group ≡ w ++ bracket)
  pub processor : TakesProcessor bracket cpu clock
  pub whole_seconds : HasSeconds clock seconds fraction
  pub parts_of_second : TakesFraction fraction nanoseconds (58 ∷ 32 ∷ rest)

pub head_stands : (text : List ℕ) (cpu seconds nanoseconds : ℕ) (rest : List ℕ)
    → HeadSteps text cpu seconds nanoseconds rest → cpu ≤ greatest_processor → seconds ≤ greatest_seconds
    → HasHead text cpu (seconds * nanoseconds_per_second + nanoseconds) rest
head_stands text cpu seconds nanoseconds rest s few early =
    let name : List ℕ = s.name.name in
    let digits : List ℕ = s.digits.0 in
    let space : List ℕ = s.space.0 in
    let column : List ℕ = s.column.0 in
    let processor : List ℕ = s.processor.digits in
    let gap : List ℕ = s.whole_seconds.gap in
    let flags : List ℕ = s.whole_seconds.flags in
    let seconds_digits : List ℕ = s.whole_seconds.digits in
    let fraction_digits : List ℕ = s.parts_of_second.digits in
    let time : List ℕ = seconds_digits ++ (46 ∷ fraction_digits) in
    let parts : List (List ℕ) = codes " " ∷ name ∷ codes "-" ∷ digits ∷ space ∷ column ∷ codes "[" ∷ processor
    ∷ codes "]" ∷ gap ∷ flags ∷ time ∷ codes ": " ∷ [] in
    let exact : seconds ≡ value_of seconds_digits = omega (arith, s.whole_seconds.value_is, early) in
    let form : IsTime time seconds nanoseconds = record {
      whole_digits = seconds_digits;
      whole_numeral = s.whole_seconds.digits_form;
      whole_value = exact;
      fraction_digits = fraction_digits;
      fraction_numeral = s.parts_of_second.numeral;
      fraction_value = s.parts_of_second.value;
      whole = refl;
    } in
    let value : cpu ≡ value_of processor = omega (arith, s.processor.value_is, few) in
    record {
      front = joined parts;
      some = omega arith;
      unbroken = joined_unbroken parts (
        refl,
        (
          s.name.unbroken,
          (
            refl,
            (
              digits_unbroken digits s.digits.1,
              (
                gap_unbroken space s.space.1,
                (
                  column_unbroken column s.column.1,
                  (
                    refl,
                    (
                      digits_unbroken processor s.processor.form,
                      (
                        refl,
                        (
                          gap_unbroken gap s.whole_seconds.gap_form,
                          (
                            s.whole_seconds.unbroken,
                            (time_unbroken time seconds nanoseconds form, (refl, tt)),
                          ),
                        ),
                      ),
                    ),
                  ),
                ),
              ),
            ),
          ),
        ),
      );
      parts = s.name.parts ∙ ap (λ (t : List ℕ). 32 ∷ (name ++ (45 ∷ t))) (s.digits.2
          ∙ ap (λ (t : List ℕ). digits ++ t) (s.space.2
          ∙ ap (λ (t : List ℕ). space ++ t) (s.column.2
          ∙ ap (λ (t : List ℕ). column ++ t) (s.processor.whole
          ∙ ap (λ (t : List ℕ). 91 ∷ (processor ++ (93 ∷ t))) (s.whole_seconds.parts
          ∙ ap (λ (t : List ℕ). gap ++ (flags ++ t)) (ap (λ (t : List ℕ). seconds_digits ++ t) s.parts_of_second.whole
          ∙ sym (append_assoc seconds_digits (46 ∷ fraction_digits) (58 ∷ 32 ∷ rest))))))))
          ∙ sym (joined_behind parts rest);
      event = λ more. record {
        seconds = seconds;
        nanoseconds = nanoseconds;
        head = record {
          name = name;
          name_width = s.name.width;
          pid = digits;
          pid_form = s.digits.1;
          pid_gap = space;
          pid_gap_form = s.space.1;
          group = column;
          group_form = s.column.1;
          processor = processor;
          processor_form = s.processor.form;
          processor_width = s.processor.width;
          processor_value = value;
          processor_gap = gap;
          processor_gap_form = s.whole_seconds.gap_form;
          flags = flags;
          flags_form = s.whole_seconds.flags_form;
          time = time;
          time_form = form;
          whole = joined_behind parts more;
        };
        cpu_in_range = few;
        seconds_in_range = early;
        time_is = refl;
      };
    }

-- ---- the label

pub labelled_stands : (text : List ℕ) (cpu time : ℕ) (behind : List ℕ) (which : Which) → HasHead text cpu time behind
    → kind_at behind ≡ Some which → HasFront text cpu time (Some which) (fields_of which behind)
labelled_stands text cpu time behind which head kind =
    let label : List ℕ = label_of which in
    record {
      front = head.front ++ label;
      some = omega (arith, head.some, length-append head.front label);
      unbroken = unbroken_append head.front label head.unbroken (label_unbroken which);
      parts = head.parts ∙ ap (λ (t : List ℕ). head.front ++ t) (label_taken behind which kind)
          ∙ sym (append_assoc head.front label (fields_of which behind));
      says = λ fields. record {
        text = label ++ fields;
        event = subst (λ (line : List ℕ). IsEventLine line cpu time (label ++ fields))
            (sym (append_assoc head.front label fields)) (head.event (label ++ fields));
        labelled = refl;
      };
    }

pub unlabelled_stands : (text : List ℕ) (cpu time : ℕ) (behind : List ℕ) → HasHead text cpu time behind
    → kind_at behind ≡ None → HasFront text cpu time None behind
unlabelled_stands text cpu time behind head kind =
    let line : List ℕ = before_first is_line_feed behind in
    let end : ℕ = position_or_len is_line_feed behind in
    record {
      front = head.front;
      some = head.some;
      unbroken = head.unbroken;
      parts = head.parts;
      says = record {
        cpu = cpu;
        time = time;
        text = line;
        event = head.event line;
        unlabelled = λ which rest whole.
            unlabelled_taken behind kind which (rest ++ drop end behind)
            (sym (take-append-drop end behind) ∙ ap (λ (t : List ℕ). t ++ drop end behind) whole
            ∙ append_assoc (label_of which) rest (drop end behind));
      };
    }
