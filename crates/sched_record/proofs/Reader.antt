-- What a reader keeps of lines, one line on: while none was bad, their events; then the first bad one.
use Rattle.std.proofs.Common.{◌≡◌, ℕ, List, [], ◌∷◌, ◌++◌, Option, Some, None, Ok, true, false, refl, ap, subst, ◌∙◌}
use Rattle.std.proofs.Common.{append_assoc}
use Rattle.std.proofs.lemmas.Bool.{both_ways, false≢true}
use Rattle.std.proofs.lemmas.List.{append-nil}
use Rattle.std.specs.Prelude.{MatchOption, is_some}
use Rattle.cfs_model.specs.declared.act.Entry.{Entry}
use Rattle.text_parts.specs.Lines.{lines_of}
use Rattle.sched_record.specs.declared.cause.TraceCause.{TraceCause}
use Rattle.sched_record.specs.declared.trace_reader.TraceReader.{TraceReader}
use Rattle.sched_record.specs.ReadLines.{AreRead}
use Rattle.sched_record.specs.Reader.{HasRead}
use Rattle.sched_record.specs.Said.{LineSays}
use Rattle.sched_record.specs.Trace.{IsFirstBadTraceLine}

-- what holds where there is none
pub where_none : {X A : Type 0} (B : X → Type 0) (o : Option X) → is_some o ≡ false → MatchOption o A B → A
where_none B None none holds = holds
where_none B (Some x) none holds = absurd (both_ways true none refl)

-- and the other way round
pub as_none : {X A : Type 0} (B : X → Type 0) (o : Option X) → is_some o ≡ false → A → MatchOption o A B
as_none B None none holds = holds
as_none B (Some x) none holds = absurd (both_ways true none refl)

-- what a line says, by another name
pub as_told : (number : ℕ) (line : List ℕ) {told say : Option Entry} → told ≡ say → LineSays number line (Ok told)
    → LineSays number line (Ok say)
as_told number line same says = subst (λ (s : Option Entry). LineSays number line (Ok s)) same says

-- what holds where there is one, changed there
pub where_some : {X : Type 0} (A C : Type 0) (B D : X → Type 0) (o : Option X) → is_some o ≡ true
    → ((x : X) → B x → D x) → MatchOption o A B → MatchOption o C D
where_some A C B D None some changed holds = absurd (false≢true some)
where_some A C B D (Some x) some changed holds = changed x holds

-- the first bad line is the first bad one of more lines too
pub still_first : (lines more : List (List ℕ)) (number : ℕ) (cause : TraceCause)
    → IsFirstBadTraceLine lines number cause → IsFirstBadTraceLine (lines ++ more) number cause
still_first lines more number cause b = record {
  front = b.front;
  line = b.line;
  rest = b.rest ++ more;
  events = b.events;
  parts = ap (λ ls. ls ++ more) b.parts ∙ append_assoc b.front (b.line ∷ b.rest) more;
  good = b.good;
  indexed = b.indexed;
  bad = b.bad;
}

-- so a reader with a bad line has read whatever follows
pub bad_stays : (reader : TraceReader) (lines more : List (List ℕ)) → is_some reader.bad ≡ true → HasRead reader lines
    → HasRead reader (lines ++ more)
bad_stays reader lines more some read =
    where_some (AreRead lines reader.count reader.last reader.entries.items)
    (AreRead (lines ++ more) reader.count reader.last reader.entries.items)
    (λ bad. IsFirstBadTraceLine lines bad.line bad.cause)
    (λ bad. IsFirstBadTraceLine (lines ++ more) bad.line bad.cause) reader.bad some
    (λ bad is. still_first lines more bad.line bad.cause is) read

-- no text, no line
pub no_lines : (front : List (List ℕ)) (rest : List ℕ) → rest ≡ [] → front ++ lines_of rest ≡ front
unfolding lines_of
no_lines front rest none = ap (λ r. front ++ lines_of r) none ∙ append-nil front
