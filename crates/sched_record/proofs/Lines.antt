-- The lines of a trace, one after another: behind lines of which none is bad, what the next one says gives the events
-- so far, or the trace's first bad line.
use Rattle.std.proofs.Common.{◌≡◌, ℕ, ◌+◌, ◌<◌, ◌≤◌, List, [], ◌∷◌, ◌++◌, length, Option, Some, None, Ok, Err, inl, inr}
use Rattle.std.proofs.Common.{refl, sym, ap, ◌∙◌, subst, arith}
use Rattle.std.specs.Prelude.{All}
use Rattle.std.specs.List.{AllPairs, AllZip, cons_option, enumerate_from}
use Rattle.std.proofs.lemmas.List.{append-nil, length_push}
use Rattle.std.proofs.lemmas.List.Elements.{filter_map-append}
use Rattle.std.proofs.lemmas.List.Quantifiers.{all_pairs_push}
use Rattle.cfs_model.specs.declared.act.Entry.{Entry}
use Rattle.sched_record.specs.declared.cause.TraceCause.{TraceCause}
use Rattle.sched_record.specs.declared.cause.TraceCause.TheVariants.{TooManyLines, Line, LostEvents, Event, TimeBack}
use Rattle.sched_record.specs.Said.{LineSays}
use Rattle.sched_record.specs.ReadLines.{AreRead, IsLastTime}
use Rattle.sched_record.specs.Trace.{AreEventsOf, IsTimeBack, IsBadAfter, IsFirstBadTraceLine}

-- numbers of one more element
pub enumerate_push : {X : Type 0} (n : ℕ) (xs : List X) (x : X)
    → enumerate_from n (xs ++ x ∷ []) ≡ enumerate_from n xs ++ (n + length xs, x) ∷ []
enumerate_push n [] x = ap (λ k. (k, x) ∷ []) (omega arith)
enumerate_push n (y ∷ ys) x =
    ap (λ rest. (n, y) ∷ rest) (enumerate_push (n + 1) ys x
    ∙ ap (λ k. enumerate_from (n + 1) ys ++ (k, x) ∷ []) (omega arith))

zip_push : {A B : Type 0} (R : A → B → Type 0) (xs : List A) (ys : List B) (x : A) (y : B) → AllZip R xs ys → R x y
    → AllZip R (xs ++ x ∷ []) (ys ++ y ∷ [])
zip_push R [] [] x y all r = (r, tt)
zip_push R [] (b ∷ ys) x y all r = absurd all
zip_push R (a ∷ xs) [] x y all r = absurd all
zip_push R (a ∷ xs) (b ∷ ys) x y all r = (all.0, zip_push R xs ys x y all.1 r)

-- one more line, which says an event or nothing
good_push : (lines : List (List ℕ)) (events : List Entry) (line : List ℕ) (say : Option Entry)
    → AreEventsOf lines events
    → LineSays (length lines + 1) line (Ok say)
    → AllPairs (λ a b. a.time ≤ b.time) (events ++ cons_option say [])
    → AreEventsOf (lines ++ line ∷ []) (events ++ cons_option say [])
good_push lines events line say good says in_time = record {
  said = good.said ++ say ∷ [];
  each =
      subst (λ ls. AllZip (λ line say. LineSays line.0 line.1 (Ok say)) ls (good.said ++ say ∷ []))
      (sym (enumerate_push 1 lines line))
      (zip_push (λ (line : ℕ × List ℕ) (say : Option Entry). LineSays line.0 line.1 (Ok say)) (enumerate_from 1 lines)
      good.said (1 + length lines, line) say good.each
      (subst (λ n. LineSays n line (Ok say)) (omega arith) says));
  kept = ap (λ es. es ++ cons_option say []) good.kept ∙ sym (filter_map-append (λ s. s) good.said (say ∷ []));
  in_time = in_time;
}

-- no line is read yet
pub begins : AreRead [] 0 0 []
begins = record {
  good = record { said = []; each = tt; kept = refl; in_time = λ i j d lt h. absurd (omega arith) };
  counted = refl;
  last_is = inl (refl, refl);
}

-- the next line says nothing that is kept
pub passes_over : {lines : List (List ℕ)} {count last : ℕ} {events : List Entry} (line : List ℕ)
    → AreRead lines count last events
    → LineSays (count + 1) line (Ok None) → AreRead (lines ++ line ∷ []) (count + 1) last events
passes_over {lines} {count} {last} {events} line read says =
    let good : AreEventsOf (lines ++ line ∷ []) (events ++ []) =
    good_push lines events line None read.good (subst (λ n. LineSays n line (Ok None)) (ap (λ n. n + 1) read.counted)
    says)
    (rw append-nil read.good.in_time) in
    record {
      good = rw append-nil at good;
      counted = ap (λ n. n + 1) read.counted ∙ sym (length_push lines line);
      last_is = read.last_is;
    }

-- the next line says an event that isn't earlier
pub adds : {lines : List (List ℕ)} {count last : ℕ} {events : List Entry} (line : List ℕ) (event : Entry)
    → AreRead lines count last events → All (λ e. e.time ≤ last) events → LineSays (count + 1) line (Ok (Some event))
    → last ≤ event.time → AreRead (lines ++ line ∷ []) (count + 1) event.time (events ++ event ∷ [])
adds {lines} {count} {last} {events} line event read before says le = record {
  good =
      good_push lines events line (Some event) read.good
      (subst (λ n. LineSays n line (Ok (Some event))) (ap (λ n. n + 1) read.counted) says)
      (all_pairs_push (λ a b. a.time ≤ b.time) events event read.good.in_time
      (λ k d h. let earlier = before k d h in omega (arith, earlier, le)));
  counted = ap (λ n. n + 1) read.counted ∙ sym (length_push lines line);
  last_is = inr (events, event, refl, refl);
}

-- what a line says alone is why it is bad
bad_alone : (events : List Entry) (number : ℕ) (line : List ℕ) (cause : TraceCause) → LineSays number line (Err cause)
    → IsBadAfter events number line cause
bad_alone events number line TooManyLines says = says
bad_alone events number line (Line fault) says = says
bad_alone events number line LostEvents says = says
bad_alone events number line (Event fault) says = says
bad_alone events number line TimeBack says = absurd says

-- the next line is bad
first_bad : {lines : List (List ℕ)} {count last : ℕ} {events : List Entry} (line : List ℕ) (cause : TraceCause)
    → AreRead lines count last events → IsBadAfter events (count + 1) line cause
    → IsFirstBadTraceLine (lines ++ line ∷ []) (count + 1) cause
first_bad {lines} {count} {last} {events} line cause read bad = record {
  front = lines;
  line = line;
  rest = [];
  events = events;
  parts = refl;
  good = read.good;
  indexed = ap (λ n. n + 1) read.counted;
  bad = bad;
}

-- the next line is bad by itself
pub refuses : {lines : List (List ℕ)} {count last : ℕ} {events : List Entry} (line : List ℕ) (cause : TraceCause)
    → AreRead lines count last events → LineSays (count + 1) line (Err cause)
    → IsFirstBadTraceLine (lines ++ line ∷ []) (count + 1) cause
refuses {lines} {count} {last} {events} line cause read says =
    first_bad line cause read (bad_alone events (count + 1) line cause says)

-- the next line says an event that is earlier than the last
falls : (events : List Entry) (last number : ℕ) (line : List ℕ) (event : Entry) → IsLastTime last events
    → LineSays number line (Ok (Some event)) → event.time < last → IsTimeBack events number line
falls events last number line event (inl none) says lt = let zero = none.0 in absurd (omega (arith, zero, lt))
falls events last number line event (inr some) says lt = record {
  before = some.0;
  last = some.1;
  event = event;
  parts = some.2;
  says = says;
  falls = subst (λ n. event.time < n) some.3 lt;
}

pub turns_back : {lines : List (List ℕ)} {count last : ℕ} {events : List Entry} (line : List ℕ) (event : Entry)
    → AreRead lines count last events → LineSays (count + 1) line (Ok (Some event)) → event.time < last
    → IsFirstBadTraceLine (lines ++ line ∷ []) (count + 1) TimeBack
turns_back {lines} {count} {last} {events} line event read says lt =
    first_bad line TimeBack read (falls events last (count + 1) line event read.last_is says lt)
