-- A head, both ways: what was read in front of a line is its head, and a line's head is what is read.
use Rattle.std.proofs.Common.{◌≡◌, ℕ, List, ◌∷◌, ◌++◌, length, min, Option, Some, refl, ap, subst, ◌∙◌}
use Rattle.std.proofs.lemmas.Option.{same_Some}
use Rattle.text_parts.specs.Numerals.{is_digit, value_of, many, IsNumeral}
use Rattle.ftrace_line.specs.Head.{IsThreadGroup, IsHead}
use Rattle.text_parts.specs.Pieces.{is_space, IsGap}
use Rattle.text_parts.specs.Reading.{or_else, after_run}
use Rattle.ftrace_line.specs.Meaning.{after_name, after_group, processor_at, stamp_at, flagged_stamp_at, HeadParts}
use Rattle.ftrace_line.specs.Meaning.{head_at}
use Rattle.text_parts.proofs.Runs.{stops_at_run, run_again, run_taken, bind_elim}
use Rattle.ftrace_line.proofs.HeadParts.{space_is_no_digit, head_name_again, name_taken, group_again, group_stops}
use Rattle.ftrace_line.proofs.HeadParts.{group_taken, processor_again, processor_taken, TakesProcessor}
use Rattle.ftrace_line.proofs.Clocks.{clock_again, clock_stops, clock_taken, TakesClock}

abbrev pub parts_found : ℕ → ℕ → ℕ → List ℕ → Option HeadParts
parts_found cpu seconds nanoseconds text =
    Some (record { cpu = cpu; seconds = seconds; nanoseconds = nanoseconds; text = text })

-- a line's head is what is read
pub head_again : (line : List ℕ) (cpu seconds nanoseconds : ℕ) (text : List ℕ) →
    IsHead line cpu seconds nanoseconds text →
    head_at line ≡ parts_found (min cpu many) (min seconds many) nanoseconds text
unfolding head_at
head_again line cpu seconds nanoseconds text h =
    let clock : List ℕ = h.flags ++ (h.time ++ (58 ∷ 32 ∷ text)) in
    let behind : List ℕ = 91 ∷ (h.processor ++ (93 ∷ (h.processor_gap ++ clock))) in
    let named : List ℕ = h.pid ++ (h.pid_gap ++ (h.group ++ behind)) in
    rw (
      h.whole,
      head_name_again h.name named h.name_width,
      run_again is_digit h.pid (h.pid_gap ++ (h.group ++ behind)) h.pid_form
          (stops_at_run is_digit is_space h.pid_gap (h.group ++ behind) h.pid_gap_form space_is_no_digit),
      run_again is_space h.pid_gap (h.group ++ behind) h.pid_gap_form
          (group_stops h.group (h.processor ++ (93 ∷ (h.processor_gap ++ clock))) h.group_form),
      group_again h.group (h.processor ++ (93 ∷ (h.processor_gap ++ clock))) h.group_form,
      processor_again h.processor (h.processor_gap ++ clock) h.processor_form h.processor_width,
      run_again is_space h.processor_gap clock h.processor_gap_form
          (clock_stops h.flags h.time seconds nanoseconds (58 ∷ 32 ∷ text) h.flags_form h.time_form),
      clock_again h.flags h.time seconds nanoseconds text h.flags_form h.time_form,
      h.processor_value,
    ) refl

-- a head was read in front of a line
pub record TakesHead (line : List ℕ) (parts : HeadParts) : Type 0 where
  pub cpu : ℕ
  pub seconds : ℕ
  pub head : IsHead line cpu seconds parts.nanoseconds parts.text
  pub cpu_is : parts.cpu ≡ min cpu many
  pub seconds_are : parts.seconds ≡ min seconds many

-- the parts stand one behind the other
regrouped : (line pid pid_gap group bracket clock name digits gap column space : List ℕ) (processor : ℕ
    × List ℕ) (stamp : ℕ × ℕ × List ℕ) →
    line ≡ 32 ∷ (name ++ (45 ∷ pid)) → pid ≡ digits ++ pid_gap → pid_gap ≡ gap ++ group → group ≡ column ++ bracket →
    (p : TakesProcessor bracket processor.0 processor.1) → processor.1 ≡ space ++ clock
    → (t : TakesClock clock stamp.0 stamp.1 stamp.2) →
    line ≡ 32 ∷ (name ++ (45 ∷ (digits ++ (gap
    ++ (column ++ (91 ∷ (p.digits ++ (93 ∷ (space ++ (t.flags ++ (t.time ++ (58 ∷ 32 ∷ stamp.2))))))))))))
regrouped line pid pid_gap group bracket clock name digits gap column space processor stamp a b c d p f t =
    a ∙ ap (λ (r : List ℕ). 32 ∷ (name ++ (45 ∷ r))) (b
    ∙ ap (λ (r : List ℕ). digits ++ r) (c
    ∙ ap (λ (r : List ℕ). gap ++ r) (d
    ∙ ap (λ (r : List ℕ). column ++ r) (p.whole
    ∙ ap (λ (r : List ℕ). 91 ∷ (p.digits ++ (93 ∷ r))) (f ∙ ap (λ (r : List ℕ). space ++ r) t.whole)))))

head_from : (line pid pid_gap group bracket clock : List ℕ) (processor : ℕ × List ℕ) (stamp : ℕ × ℕ
    × List ℕ) (parts : HeadParts) →
    (name : List ℕ) × (length name ≡ 15) × (line ≡ 32 ∷ (name ++ (45 ∷ pid))) →
    (digits : List ℕ) × IsNumeral digits × (pid ≡ digits ++ pid_gap) →
    (gap : List ℕ) × IsGap gap × (pid_gap ≡ gap ++ group) →
    (column : List ℕ) × IsThreadGroup column × (group ≡ column ++ bracket) →
    TakesProcessor bracket processor.0 processor.1 →
    (space : List ℕ) × IsGap space × (processor.1 ≡ space ++ clock) →
    TakesClock clock stamp.0 stamp.1 stamp.2 →
    parts_found processor.0 stamp.0 stamp.1 stamp.2 ≡ Some parts →
    TakesHead line parts
head_from line pid pid_gap group bracket clock processor stamp parts (name, width, a) (digits, numeral, b)
    (gap, gap_form, c) (column, column_form, d) p (space, space_form, f) t e =
    subst (λ (x : HeadParts). TakesHead line x) (same_Some _ parts e) (record {
      cpu = value_of p.digits;
      seconds = t.exact_seconds;
      head = record {
        name = name;
        name_width = width;
        pid = digits;
        pid_form = numeral;
        pid_gap = gap;
        pid_gap_form = gap_form;
        group = column;
        group_form = column_form;
        processor = p.digits;
        processor_form = p.form;
        processor_width = p.width;
        processor_value = refl;
        processor_gap = space;
        processor_gap_form = space_form;
        flags = t.flags;
        flags_form = t.flags_form;
        time = t.time;
        time_form = t.form;
        whole = regrouped line pid pid_gap group bracket clock name digits gap column space processor stamp a b c d p f
            t;
      };
      cpu_is = p.value_is;
      seconds_are = t.seconds_are;
    })

pub head_taken : (line : List ℕ) (parts : HeadParts) → head_at line ≡ Some parts → TakesHead line parts
unfolding head_at
head_taken line parts e =
    bind_elim (after_name line) _ parts e (λ pid name e.
    bind_elim (after_run is_digit pid) _ parts e (λ pid_gap digits e.
    bind_elim (after_run is_space pid_gap) _ parts e (λ group gap e.
    bind_elim (after_group group) _ parts e (λ bracket column e.
    bind_elim (processor_at bracket) _ parts e (λ processor number e.
    bind_elim (after_run is_space processor.1) _ parts e (λ clock space e.
    bind_elim (or_else (stamp_at clock) (flagged_stamp_at clock)) _ parts e (λ stamp time e.
    head_from line pid pid_gap group bracket clock processor stamp parts
    (name_taken line pid name) (run_taken is_digit pid pid_gap digits) (run_taken is_space pid_gap group gap)
    (group_taken group bracket column)
    (processor_taken bracket processor.0 processor.1 number) (run_taken is_space processor.1 clock space)
    (clock_taken clock stamp time) e)))))))
