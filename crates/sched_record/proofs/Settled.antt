-- A settled line says the same with anything behind it. So what a reader keeps of lines that end with it, it keeps of
-- those that end with the longer one.
use Rattle.std.proofs.Common.{◌≡◌, ℕ, ◌+◌, List, [], ◌∷◌, ◌++◌, length, Option, Some, None, Result, Ok, Err, ◌⊎◌, inl}
use Rattle.std.proofs.Common.{inr, refl, sym, ap, ◌∙◌, subst, arith, length-append}
use Rattle.std.specs.Prelude.{MatchOption}
use Rattle.std.specs.List.{AllZip, enumerate_from}
use Rattle.std.proofs.lemmas.List.{length_push}
use Rattle.cfs_model.specs.declared.act.Entry.{Entry}
use Rattle.ftrace_line.specs.Front.{IsSettled}
use Rattle.ftrace_line.specs.Line.{LineAnswer, comment, lost, other, sched}
use Rattle.sched_record.specs.declared.cause.TraceCause.{TraceCause}
use Rattle.sched_record.specs.declared.cause.TraceCause.TheVariants.{TooManyLines, Line, LostEvents, Event, TimeBack}
use Rattle.sched_record.specs.declared.trace_reader.TraceReader.{TraceReader}
use Rattle.sched_record.specs.Said.{LineSays}
use Rattle.sched_record.specs.ReadLines.{AreRead}
use Rattle.sched_record.specs.Reader.{HasRead}
use Rattle.sched_record.specs.Trace.{IsBadAfter, IsFirstBadTraceLine}
use Rattle.sched_record.proofs.Following.{Says}

-- what the one line says, the other says too
abbrev pub SaysToo : List ℕ → List ℕ → Type 0
SaysToo front line = (number : ℕ) (say : Result (Option Entry) TraceCause) → LineSays number front say
    → LineSays number line say

nothing_too : (front more : List ℕ) → IsSettled front → LineAnswer front (Ok comment) ⊎ LineAnswer front (Ok other)
    → LineAnswer (front ++ more) (Ok comment) ⊎ LineAnswer (front ++ more) (Ok other)
nothing_too front more settled (inl is) = inl (settled.same (Ok comment) more is)
nothing_too front more settled (inr is) = inr (settled.same (Ok other) more is)

pub settled_too : (front more : List ℕ) → IsSettled front → SaysToo front (front ++ more)
settled_too front more settled number (Ok (Some entry)) says = (
  says.0,
  record {
    cpu = says.1.cpu;
    which = says.1.which;
    rest = says.1.rest;
    event = says.1.event;
    head = settled.same (Ok (sched says.1.cpu entry.time says.1.which says.1.rest)) more says.1.head;
    text = says.1.text;
    act = says.1.act;
    indexed = says.1.indexed;
  },
)
settled_too front more settled number (Ok None) says = (says.0, nothing_too front more settled says.1)
settled_too front more settled number (Err TooManyLines) says = says
settled_too front more settled number (Err (Line fault)) says = (says.0, settled.same (Err fault) more says.1)
settled_too front more settled number (Err LostEvents) says = (says.0, settled.same (Ok lost) more says.1)
settled_too front more settled number (Err (Event fault)) says = (
  says.0,
  record {
    cpu = says.1.cpu;
    time = says.1.time;
    which = says.1.which;
    rest = says.1.rest;
    head = settled.same (Ok (sched says.1.cpu says.1.time says.1.which says.1.rest)) more says.1.head;
    text = says.1.text;
  },
)
settled_too front more settled number (Err TimeBack) says = absurd says

each_too : (n : ℕ) (lines : List (List ℕ)) (front line : List ℕ) (said : List (Option Entry)) → SaysToo front line
    → AllZip Says (enumerate_from n (lines ++ front ∷ [])) said
    → AllZip Says (enumerate_from n (lines ++ line ∷ [])) said
each_too n [] front line [] too each = absurd each
each_too n [] front line (say ∷ said) too each = (too n (Ok say) each.0, each.1)
each_too n (first ∷ lines) front line [] too each = absurd each
each_too n (first ∷ lines) front line (say ∷ said) too each =
    (each.0, each_too (n + 1) lines front line said too each.1)

pub read_too : (lines : List (List ℕ)) (front line : List ℕ) (count last : ℕ) (events : List Entry) → SaysToo front line
    → AreRead (lines ++ front ∷ []) count last events → AreRead (lines ++ line ∷ []) count last events
read_too lines front line count last events too read = record {
  good = record {
    said = read.good.said;
    each = each_too 1 lines front line read.good.said too read.good.each;
    kept = read.good.kept;
    in_time = read.good.in_time;
  };
  counted = read.counted ∙ length_push lines front ∙ sym (length_push lines line);
  last_is = read.last_is;
}

bad_too : (front line : List ℕ) (events : List Entry) (number : ℕ) (cause : TraceCause) → SaysToo front line
    → IsBadAfter events number front cause → IsBadAfter events number line cause
bad_too front line events number TooManyLines too bad = too number (Err TooManyLines) bad
bad_too front line events number (Line fault) too bad = too number (Err (Line fault)) bad
bad_too front line events number LostEvents too bad = too number (Err LostEvents) bad
bad_too front line events number (Event fault) too bad = too number (Err (Event fault)) bad
bad_too front line events number TimeBack too bad = record {
  before = bad.before;
  last = bad.last;
  event = bad.event;
  parts = bad.parts;
  says = too number (Ok (Some bad.event)) bad.says;
  falls = bad.falls;
}

-- a line of lines that end with another is that, or stands before it
last_or_before : {L : Type 0} (lines front : List L) (x y line : L) (rest : List L)
    → lines ++ x ∷ [] ≡ front ++ line ∷ rest
    → ((front ≡ lines) × (line ≡ x)) ⊎ ((more : List L) × (lines ++ y ∷ [] ≡ front ++ line ∷ more))
last_or_before [] [] x y line rest e = inl (refl, cc)
last_or_before [] (f ∷ front) x y line rest e = absurd (omega (arith, ap length e, length-append front (line ∷ rest)))
last_or_before (l ∷ lines) [] x y line rest e = inr (lines ++ y ∷ [], cc)
last_or_before (l ∷ lines) (f ∷ front) x y line rest e =
    let first : l ≡ f = cc in
    let later : lines ++ x ∷ [] ≡ front ++ line ∷ rest = cc in
    further first (last_or_before lines front x y line rest later)
  where
    further : l ≡ f → ((front ≡ lines) × (line ≡ x)) ⊎ ((more : List _) × (lines ++ y ∷ [] ≡ front ++ line ∷ more))
        → ((f ∷ front ≡ l ∷ lines) × (line ≡ x)) ⊎ ((more : List _)
        × (l ∷ (lines ++ y ∷ []) ≡ f ∷ (front ++ line ∷ more)))
    further first (inl (same, is)) = inl (cc, is)
    further first (inr (more, parts)) = inr (more, cc)

pub first_bad_too : (lines : List (List ℕ)) (front line : List ℕ) (number : ℕ) (cause : TraceCause) → SaysToo front line
    → IsFirstBadTraceLine (lines ++ front ∷ []) number cause → IsFirstBadTraceLine (lines ++ line ∷ []) number cause
first_bad_too lines front line number cause too b =
    by_index (last_or_before lines b.front front line b.line b.rest b.parts)
  where
    by_index : ((b.front ≡ lines) × (b.line ≡ front))
        ⊎ ((more : List (List ℕ)) × (lines ++ line ∷ [] ≡ b.front ++ b.line ∷ more))
        → IsFirstBadTraceLine (lines ++ line ∷ []) number cause
    by_index (inl (same, is)) = record {
      front = b.front;
      line = line;
      rest = [];
      events = b.events;
      parts = ap (λ ls. ls ++ line ∷ []) (sym same);
      good = b.good;
      indexed = b.indexed;
      bad = bad_too front line b.events number cause too (subst (λ l. IsBadAfter b.events number l cause) is b.bad);
    }
    by_index (inr (more, parts)) = record {
      front = b.front;
      line = b.line;
      rest = more;
      events = b.events;
      parts = parts;
      good = b.good;
      indexed = b.indexed;
      bad = b.bad;
    }

pub both_ways : {X A C : Type 0} (B D : X → Type 0) (o : Option X) → (A → C) → ((x : X) → B x → D x) → MatchOption o A B
    → MatchOption o C D
both_ways B D None none some holds = none holds
both_ways B D (Some x) none some holds = some x holds

pub has_read_too : (reader : TraceReader) (lines : List (List ℕ)) (front more : List ℕ) → IsSettled front
    → HasRead reader (lines ++ front ∷ []) → HasRead reader (lines ++ (front ++ more) ∷ [])
has_read_too reader lines front more settled read =
    let too = settled_too front more settled in
    both_ways (λ bad. IsFirstBadTraceLine (lines ++ front ∷ []) bad.line bad.cause)
    (λ bad. IsFirstBadTraceLine (lines ++ (front ++ more) ∷ []) bad.line bad.cause) reader.bad
    (read_too lines front (front ++ more) reader.count reader.last reader.entries.items too)
    (λ bad. first_bad_too lines front (front ++ more) bad.line bad.cause too) read
