-- What is answered is so: each way through the reading of a line ends in that line's meaning.
use Rattle.std.proofs.Common.{◌≡◌, ℕ, ◌+◌, ◌*◌, ◌<◌, ◌≤◌, ◌⊎◌, false, leb, List, Option, Some, None, Ok, refl, sym, ◌∙◌}
use Rattle.std.proofs.Common.{inl, inr, arith}
use Rattle.std.proofs.lemmas.Bool.{cases_Bool, leb-true, leb-false, false≢true}
use Rattle.cfs_model.specs.Limits.{greatest_processor, greatest_seconds, nanoseconds_per_second}
use Rattle.text_parts.specs.Lines.{is_comment}
use Rattle.ftrace_line.specs.declared.kinds.Which.{Which}
use Rattle.ftrace_line.specs.Line.{IsEventLine, IsHeadOutOfRange, LineAnswer}
use Rattle.ftrace_line.specs.Meaning.{after_loss, is_end, kind_at, event_meaning, head_at, head_meaning, HeadParts}
use Rattle.ftrace_line.specs.Meaning.{meaning_of}
use Rattle.ftrace_line.proofs.Heads.{head_again, head_taken, TakesHead}
use Rattle.ftrace_line.proofs.Losses.{lost_again, lost_taken, end_is}
use Rattle.ftrace_line.proofs.Labels.{label_taken, unlabelled_taken}

-- a head in range, with the values that were read
event_in_range : (line : List ℕ) (parts : HeadParts) → TakesHead line parts → parts.cpu ≤ greatest_processor →
    parts.seconds ≤ greatest_seconds → IsEventLine line parts.cpu
    (parts.seconds * nanoseconds_per_second + parts.nanoseconds) parts.text
event_in_range line parts t low_cpu low_seconds =
    let cpu_same : parts.cpu ≡ t.cpu = omega (arith, t.cpu_is) in
    let seconds_same : parts.seconds ≡ t.seconds = omega (arith, t.seconds_are) in
    record {
      seconds = parts.seconds;
      nanoseconds = parts.nanoseconds;
      head = rw (cpu_same, seconds_same) t.head;
      cpu_in_range = low_cpu;
      seconds_in_range = low_seconds;
      time_is = refl;
    }

event_answered : (line : List ℕ) (parts : HeadParts) (r : Option Which) → kind_at parts.text ≡ r →
    IsEventLine line parts.cpu (parts.seconds * nanoseconds_per_second + parts.nanoseconds) parts.text →
    LineAnswer line (Ok (event_meaning parts r))
event_answered line parts None e event =
    record {
      cpu = parts.cpu;
      time = parts.seconds * nanoseconds_per_second + parts.nanoseconds;
      text =
          parts.text;
      event = event;
      unlabelled = unlabelled_taken parts.text e;
    }
event_answered line parts (Some which) e event =
    record { text = parts.text; event = event; labelled = label_taken parts.text which e }

above : (line : List ℕ) (parts : HeadParts) → TakesHead line parts →
    (greatest_processor < parts.cpu) ⊎ (greatest_seconds < parts.seconds) → IsHeadOutOfRange line
above line parts t (inl high) = record {
  cpu = t.cpu;
  seconds = t.seconds;
  nanoseconds = parts.nanoseconds;
  text =
      parts.text;
  head = t.head;
  beyond = inl (omega (arith, t.cpu_is));
}
above line parts t (inr high) = record {
  cpu = t.cpu;
  seconds = t.seconds;
  nanoseconds = parts.nanoseconds;
  text =
      parts.text;
  head = t.head;
  beyond = inr (omega (arith, t.seconds_are));
}

head_answered : (line : List ℕ) (parts : HeadParts) → TakesHead line parts → LineAnswer line (head_meaning (Some parts))
head_answered line parts t =
    elim (cases_Bool (leb parts.cpu greatest_processor)) [
      | inl low_cpu ↦
          elim (cases_Bool (leb parts.seconds greatest_seconds)) [
            | inl low_seconds ↦
                rw (low_cpu, low_seconds)
                (event_answered line parts (kind_at parts.text) refl
                (event_in_range line parts t (leb-true parts.cpu greatest_processor low_cpu)
                (leb-true parts.seconds greatest_seconds low_seconds)))
            | inr high ↦ rw (low_cpu, high) (above line parts t (inr (leb-false parts.seconds greatest_seconds high)))
          ]
      | inr high ↦ rw high (above line parts t (inl (leb-false parts.cpu greatest_processor high)))
    ]

behind_loss : (line : List ℕ) (r : Option HeadParts) → head_at line ≡ r → is_comment line ≡ false →
    is_end (after_loss line) ≡ false → LineAnswer line (head_meaning r)
behind_loss line (Some parts) e plain present = head_answered line parts (head_taken line parts e)
behind_loss line None e plain present =
    record {
      no_comment = λ c. false≢true (sym plain ∙ c);
      no_loss = λ l. false≢true (sym present ∙ lost_again line l);
      no_head = λ cpu seconds nanoseconds text h. let found = head_again line cpu seconds nanoseconds text h in cc;
    }

-- what is read is what the line means
pub answer_so : (line : List ℕ) → LineAnswer line (meaning_of line)
unfolding meaning_of
answer_so line =
    elim (cases_Bool (is_comment line)) [
      | inl e ↦ rw e e
      | inr plain ↦
          elim (cases_Bool (is_end (after_loss line))) [
            | inl e ↦ rw (plain, e) (lost_taken line (end_is (after_loss line) e))
            | inr present ↦ rw (plain, present) (behind_loss line (head_at line) refl plain present)
          ]
    ]
