-- A line's meaning, both ways. The kinds of line differ in their first byte, so at most one kind fits; a head is read
-- in one way; and a bounded number is in range where the number itself is.
use Rattle.std.proofs.Common.{◌≡◌, ℕ, ◌<◌, ◌≤◌, ◌&&◌, ◌⊎◌, false, leb, List, min, None, Result, Ok, Err, refl, sym, ◌∙◌}
use Rattle.std.proofs.Common.{inl, inr, arith}
use Rattle.std.proofs.lemmas.Bool.{and_left, and_right, le-leb, lt-leb, false_from_ne_true}
use Rattle.cfs_model.specs.Limits.{greatest_processor, greatest_seconds}
use Rattle.text_parts.specs.Lines.{is_comment, IsComment}
use Rattle.ftrace_line.specs.declared.kinds.Which.{Which}
use Rattle.ftrace_line.specs.declared.fault.LineFault.{LineFault}
use Rattle.ftrace_line.specs.declared.fault.LineFault.TheVariants.{BadHead, NumberRange}
use Rattle.text_parts.specs.Numerals.{many}
use Rattle.ftrace_line.specs.Head.{IsHead}
use Rattle.ftrace_line.specs.Line.{LineView, comment, lost, other, sched, IsLost, IsEventLine, IsSched, IsOther}
use Rattle.ftrace_line.specs.Line.{IsHeadOutOfRange, IsHeadless, LineAnswer}
use Rattle.text_parts.specs.Reading.{after_text}
use Rattle.ftrace_line.specs.Meaning.{after_loss, is_end, kind_at, event_meaning, head_at, head_meaning, meaning_of}
use Rattle.text_parts.proofs.Runs.{none_from}
use Rattle.ftrace_line.proofs.Heads.{head_again, head_taken, TakesHead, parts_found}
use Rattle.ftrace_line.proofs.Losses.{lost_again, lost_taken, end_is}
use Rattle.ftrace_line.proofs.Labels.{label_again, fields_again, unlabelled_again}

-- ---- the first byte tells the kinds apart

lost_is_no_comment : (line : List ℕ) → IsLost line → is_comment line ≡ false
unfolding is_comment
lost_is_no_comment line l = rw l.whole refl

head_is_no_comment : (line : List ℕ) (cpu seconds nanoseconds : ℕ) (text : List ℕ) →
    IsHead line cpu seconds nanoseconds text → is_comment line ≡ false
unfolding is_comment
head_is_no_comment line cpu seconds nanoseconds text h = rw h.whole refl

head_is_no_loss : (line : List ℕ) (cpu seconds nanoseconds : ℕ) (text : List ℕ) →
    IsHead line cpu seconds nanoseconds text → is_end (after_loss line) ≡ false
unfolding after_loss after_text
head_is_no_loss line cpu seconds nanoseconds text h = rw h.whole refl

-- a line with a head means what its head means
head_decides : (line : List ℕ) (cpu seconds nanoseconds : ℕ) (text : List ℕ) →
    IsHead line cpu seconds nanoseconds text →
    meaning_of line ≡ head_meaning (parts_found (min cpu many) (min seconds many) nanoseconds text)
unfolding meaning_of
head_decides line cpu seconds nanoseconds text h =
    rw (
      head_is_no_comment line cpu seconds nanoseconds text h,
      head_is_no_loss line cpu seconds nanoseconds text h,
      head_again line cpu seconds nanoseconds text h,
    ) refl

-- ---- what is so is answered

event_only : (line : List ℕ) (cpu time : ℕ) (text : List ℕ) (e : IsEventLine line cpu time text) →
    meaning_of line ≡ Ok (event_meaning (record {
      cpu = cpu;
      seconds = e.seconds;
      nanoseconds = e.nanoseconds;
      text =
          text;
    }) (kind_at text))
event_only line cpu time text e =
    let low_cpu : cpu ≤ greatest_processor = e.cpu_in_range in
    let low_seconds : e.seconds ≤ greatest_seconds = e.seconds_in_range in
    let cpu_same : min cpu many ≡ cpu = omega arith in
    let seconds_same : min e.seconds many ≡ e.seconds = omega arith in
    head_decides line cpu e.seconds e.nanoseconds text e.head
    ∙ rw (
      cpu_same,
      seconds_same,
      le-leb cpu greatest_processor low_cpu,
      le-leb e.seconds greatest_seconds
          low_seconds,
    ) refl

sched_only : (line : List ℕ) (cpu time : ℕ) (which : Which) (rest : List ℕ) → IsSched line cpu time which rest →
    meaning_of line ≡ Ok (sched cpu time which rest)
sched_only line cpu time which rest s =
    event_only line cpu time s.text s.event
    ∙ rw (s.labelled, label_again which rest, fields_again which rest, s.event.time_is) refl

other_only : (line : List ℕ) → IsOther line → meaning_of line ≡ Ok other
other_only line o = event_only line o.cpu o.time o.text o.event ∙ rw (unlabelled_again o.text o.unlabelled) refl

beyond_test : (cpu seconds : ℕ) → (greatest_processor < cpu) ⊎ (greatest_seconds < seconds) →
    (leb (min cpu many) greatest_processor && leb (min seconds many) greatest_seconds) ≡ false
beyond_test cpu seconds (inl high) = and_left (leb (min cpu many) greatest_processor)
    (leb (min seconds many) greatest_seconds) (lt-leb (min cpu many) greatest_processor (omega arith))
beyond_test cpu seconds (inr high) = and_right (leb (min cpu many) greatest_processor)
    (leb (min seconds many) greatest_seconds) (lt-leb (min seconds many) greatest_seconds (omega arith))

beyond_only : (line : List ℕ) → IsHeadOutOfRange line → meaning_of line ≡ Err NumberRange
beyond_only line b = head_decides line b.cpu b.seconds b.nanoseconds b.text b.head
    ∙ rw (beyond_test b.cpu b.seconds b.beyond) refl

headless_only : (line : List ℕ) → IsHeadless line → meaning_of line ≡ Err BadHead
unfolding meaning_of
headless_only line h =
    let plain : is_comment line ≡ false = false_from_ne_true (is_comment line) (λ e. h.no_comment e) in
    let present : is_end (after_loss line) ≡ false =
    false_from_ne_true (is_end (after_loss line)) (λ e. h.no_loss (lost_taken line (end_is (after_loss line) e))) in
    let none : head_at line ≡ None =
    none_from (head_at line) (λ parts e. let t : TakesHead line parts = head_taken line parts e in
    h.no_head t.cpu t.seconds parts.nanoseconds parts.text t.head) in
    rw (plain, present, none) refl

comment_only : (line : List ℕ) → IsComment line → meaning_of line ≡ Ok comment
unfolding meaning_of
comment_only line c = rw c refl

lost_only : (line : List ℕ) → IsLost line → meaning_of line ≡ Ok lost
unfolding meaning_of
lost_only line l = rw (lost_is_no_comment line l, lost_again line l) refl

-- what a line means is what is read
pub answer_only : (line : List ℕ) (a : Result LineView LineFault) → LineAnswer line a → meaning_of line ≡ a
answer_only line (Ok comment) c = comment_only line c
answer_only line (Ok lost) l = lost_only line l
answer_only line (Ok other) o = other_only line o
answer_only line (Ok (sched cpu time which rest)) s = sched_only line cpu time which rest s
answer_only line (Err BadHead) h = headless_only line h
answer_only line (Err NumberRange) b = beyond_only line b

-- a line has one meaning at most
pub answers_agree : (line : List ℕ) (a b : Result LineView LineFault) → LineAnswer line a → LineAnswer line b → a ≡ b
answers_agree line a b p q = sym (answer_only line a p) ∙ answer_only line b q
