-- A trace means one thing: what each line says is one thing, so a bad line is in no good front, and of two first bad
-- lines neither comes before the other.
use Rattle.std.proofs.Common.{◌≡◌, ℕ, ◌+◌, ◌<◌, ◌≤◌, List, [], ◌∷◌, ◌++◌, length, Option, Some, Result, Ok, Err}
use Rattle.std.proofs.Common.{MatchResult, inl, inr, refl, sym, ap, ◌∙◌, subst, arith}
use Rattle.std.specs.List.{AllPairs, AllZip, cons_option, enumerate_from, filter_map}
use Rattle.std.proofs.lemmas.Bool.{cases_order}
use Rattle.std.proofs.lemmas.List.{append_assoc}
use Rattle.std.proofs.lemmas.List.Elements.{filter_map-append}
use Rattle.cfs_model.specs.declared.act.Entry.{Entry}
use Rattle.text_parts.specs.Lines.{lines_of}
use Rattle.sched_record.specs.declared.cause.TraceCause.{TraceCause}
use Rattle.sched_record.specs.declared.cause.TraceCause.TheVariants.{TooManyLines, Line, LostEvents, Event, TimeBack}
use Rattle.sched_record.specs.Said.{LineSays}
use Rattle.sched_record.specs.Trace.{AreEventsOf, IsBadAfter, IsFirstBadTraceLine, TraceAnswer}
use Rattle.sched_record.proofs.OneSaying.{ReadOnce, one_saying}
use Rattle.sched_record.proofs.Splits.{same_cut, later_cut, next_in_order}

abbrev AllSay : ℕ → List (List ℕ) → List (Option Entry) → Type 0
AllSay n lines said = AllZip (λ (line : ℕ × List ℕ) (say : Option Entry). LineSays line.0 line.1 (Ok say))
    (enumerate_from n lines) said

abbrev events_said : List (Option Entry) → List Entry
events_said said = filter_map (λ say. say) said

-- good lines say one thing
one_said : ReadOnce → (n : ℕ) (lines : List (List ℕ)) (said said' : List (Option Entry)) → AllSay n lines said
    → AllSay n lines said'
    → said ≡ said'
one_said once n [] [] [] says says' = refl
one_said once n [] [] (say ∷ said') says says' = absurd says'
one_said once n [] (say ∷ said) said' says says' = absurd says
one_said once n (line ∷ lines) [] said' says says' = absurd says
one_said once n (line ∷ lines) (say ∷ said) [] says says' = absurd says'
one_said once n (line ∷ lines) (say ∷ said) (say' ∷ said') says says' =
    let first : Ok say ≡ Ok say' = one_saying once n line (Ok say) (Ok say') says.0 says'.0 in
    let rest = one_said once (n + 1) lines said said' says.1 says'.1 in
    cc

pub one_list_of_events : ReadOnce → (lines : List (List ℕ)) (events events' : List Entry) → AreEventsOf lines events
    → AreEventsOf lines events'
    → events ≡ events'
one_list_of_events once lines events events' good good' =
    good.kept ∙ ap events_said (one_said once 1 lines good.said good'.said good.each good'.each) ∙ sym good'.kept

-- good lines, cut at one of them
record Cut (n : ℕ) (front : List (List ℕ)) (line : List ℕ) (said : List (Option Entry)) : Type 0 where
  before : List (Option Entry)
  say : Option Entry
  after : List (Option Entry)
  parts : said ≡ before ++ say ∷ after
  front_says : AllSay n front before
  line_says : LineSays (length front + n) line (Ok say)

cut_at : (n : ℕ) (front : List (List ℕ)) (line : List ℕ) (rest : List (List ℕ)) (said : List (Option Entry))
    → AllSay n (front ++ line ∷ rest) said → Cut n front line said
cut_at n [] line rest [] says = absurd says
cut_at n [] line rest (say ∷ said) says = record {
  before = [];
  say = say;
  after = said;
  parts = refl;
  front_says = tt;
  line_says = subst (λ k. LineSays k line (Ok say)) (omega arith) says.0;
}
cut_at n (first ∷ front) line rest [] says = absurd says
cut_at n (first ∷ front) line rest (say ∷ said) says =
    let cut = cut_at (n + 1) front line rest said says.1 in
    record {
      before = say ∷ cut.before;
      say = cut.say;
      after = cut.after;
      parts = ap (λ s. say ∷ s) cut.parts;
      front_says = (says.0, cut.front_says);
      line_says = subst (λ k. LineSays k line (Ok cut.say)) (omega arith) cut.line_says;
    }

-- what a bad line says
record Saying (events : List Entry) (number : ℕ) (line : List ℕ) (cause : TraceCause) : Type 0 where
  say : Result (Option Entry) TraceCause
  says : LineSays number line say
  why : MatchResult say (λ _. cause ≡ TimeBack) (λ alone. cause ≡ alone)

saying : (events : List Entry) (number : ℕ) (line : List ℕ) (cause : TraceCause) → IsBadAfter events number line cause
    → Saying events number line cause
saying events number line TooManyLines bad = record { say = Err TooManyLines; says = bad; why = refl }
saying events number line (Line fault) bad = record { say = Err (Line fault); says = bad; why = refl }
saying events number line LostEvents bad = record { say = Err LostEvents; says = bad; why = refl }
saying events number line (Event fault) bad = record { say = Err (Event fault); says = bad; why = refl }
saying events number line TimeBack bad = record { say = Ok (Some bad.event); says = bad.says; why = refl }

one_why : (say : Result (Option Entry) TraceCause) (a b : TraceCause)
    → MatchResult say (λ _. a ≡ TimeBack) (λ alone. a ≡ alone)
    → MatchResult say (λ _. b ≡ TimeBack) (λ alone. b ≡ alone) → a ≡ b
one_why (Ok say) a b p q = p ∙ sym q
one_why (Err alone) a b p q = p ∙ sym q

one_bad_cause : ReadOnce → (events events' : List Entry) (number : ℕ) (line : List ℕ) (a b : TraceCause)
    → IsBadAfter events number line a
    → IsBadAfter events' number line b → a ≡ b
one_bad_cause once events events' number line a b bad bad' =
    let p = saying events number line a bad in
    let q = saying events' number line b bad' in
    one_why q.say a b (subst (λ say. MatchResult say (λ _. a ≡ TimeBack) (λ alone. a ≡ alone))
    (one_saying once number line p.say q.say p.says q.says) p.why) q.why

-- a line that says something by itself isn't bad by itself
not_both : ReadOnce → (number : ℕ) (line : List ℕ) (say : Option Entry) (cause : TraceCause)
    → LineSays number line (Ok say)
    → LineSays number line (Err cause) → ⊥
not_both once number line say cause good bad = let same = one_saying once number line (Ok say) (Err cause) good bad in
    absurd cc

-- an event that is earlier than the one before it isn't among good lines
no_fall : (before after : List Entry) (last event : Entry) (events : List Entry)
    → events ≡ before ++ last ∷ event ∷ after
    → AllPairs (λ a b. a.time ≤ b.time) events → event.time < last.time → ⊥
no_fall before after last event events parts in_time falls =
    let le = next_in_order (λ a b. a.time ≤ b.time) before last event after
    (subst (λ es. AllPairs (λ a b. a.time ≤ b.time) es) parts in_time) in
    absurd (omega (arith, le, falls))

-- among good lines none is bad
never_bad : ReadOnce → (lines front rest : List (List ℕ)) (line : List ℕ) (all events : List Entry) (cause : TraceCause)
    → AreEventsOf lines all → lines ≡ front ++ line ∷ rest → AreEventsOf front events
    → IsBadAfter events (length front + 1) line cause → ⊥
never_bad once lines front rest line all events cause good parts front_good bad =
    let cut = cut_at 1 front line rest good.said (subst (λ ls. AllSay 1 ls good.said) parts good.each) in
    refuted cut cause bad
  where
    refuted : Cut 1 front line good.said → (cause : TraceCause) → IsBadAfter events (length front + 1) line cause → ⊥
    refuted cut TooManyLines bad = not_both once (length front + 1) line cut.say TooManyLines cut.line_says bad
    refuted cut (Line fault) bad = not_both once (length front + 1) line cut.say (Line fault) cut.line_says bad
    refuted cut LostEvents bad = not_both once (length front + 1) line cut.say LostEvents cut.line_says bad
    refuted cut (Event fault) bad = not_both once (length front + 1) line cut.say (Event fault) cut.line_says bad
    refuted cut TimeBack bad =
        let same : Ok cut.say ≡ Ok (Some bad.event) =
        one_saying once (length front + 1) line (Ok cut.say) (Ok (Some bad.event)) cut.line_says bad.says in
        let say_is : cut.say ≡ Some bad.event = cc in
        let front_is : events_said cut.before ≡ events =
        ap events_said (one_said once 1 front cut.before front_good.said cut.front_says front_good.each)
        ∙ sym front_good.kept in
        let whole : all ≡ (bad.before ++ bad.last ∷ []) ++ bad.event ∷ events_said cut.after =
        good.kept ∙ ap events_said cut.parts ∙ filter_map-append (λ say. say) cut.before (cut.say ∷ cut.after)
        ∙ ap (λ es. es ++ events_said (cut.say ∷ cut.after)) (front_is ∙ bad.parts)
        ∙ ap (λ say. (bad.before ++ bad.last ∷ []) ++ cons_option say (events_said cut.after)) say_is in
        no_fall bad.before (events_said cut.after) bad.last bad.event all
        (whole ∙ append_assoc bad.before (bad.last ∷ []) (bad.event ∷ events_said cut.after)) good.in_time bad.falls

-- of two first bad lines neither comes before the other
not_earlier : ReadOnce → (lines : List (List ℕ)) (m n : ℕ) (c d : TraceCause) → (x : IsFirstBadTraceLine lines m c)
    → (y : IsFirstBadTraceLine lines n d)
    → length x.front < length y.front → ⊥
not_earlier once lines m n c d x y lt =
    let cut = later_cut x.front y.front x.line y.line x.rest y.rest (sym x.parts ∙ y.parts) lt in
    never_bad once y.front x.front cut.0 x.line y.events x.events c y.good cut.1 x.good
    (subst (λ k. IsBadAfter x.events k x.line c) x.indexed x.bad)

one_first_bad : ReadOnce → (lines : List (List ℕ)) (m n : ℕ) (c d : TraceCause) → IsFirstBadTraceLine lines m c
    → IsFirstBadTraceLine lines n d
    → (m ≡ n) × (c ≡ d)
one_first_bad once lines m n c d x y =
    elim (cases_order (length x.front) (length y.front)) [
      | inl same ↦ (
          let cut = same_cut x.front y.front x.line y.line x.rest y.rest (sym x.parts ∙ y.parts) same in
          let number : m ≡ n = x.indexed ∙ ap (λ k. k + 1) same ∙ sym y.indexed in
          let bad : IsBadAfter x.events n y.line c = subst (λ k. IsBadAfter x.events k y.line c) number
          (subst (λ l. IsBadAfter x.events m l c) cut.1 x.bad) in
          (number, one_bad_cause once x.events y.events n y.line c d bad y.bad))
      | inr apart ↦ elim apart [
        | inl less ↦ absurd (not_earlier once lines m n c d x y less)
        | inr more ↦ absurd (not_earlier once lines n m d c y x more)
      ]
    ]

-- good lines have no first bad line
not_mixed : ReadOnce → (lines : List (List ℕ)) (events : List Entry) (number : ℕ) (cause : TraceCause)
    → AreEventsOf lines events
    → IsFirstBadTraceLine lines number cause → ⊥
not_mixed once lines events number cause good bad =
    never_bad once lines bad.front bad.rest bad.line events bad.events cause good bad.parts bad.good
    (subst (λ k. IsBadAfter bad.events k bad.line cause) bad.indexed bad.bad)

pub one_trace : ReadOnce → (text : List ℕ) (a b : Result (List Entry) (ℕ × TraceCause)) → TraceAnswer text a
    → TraceAnswer text b → a ≡ b
one_trace once text (Ok events) (Ok events') p q =
    ap (λ es. Ok es) (one_list_of_events once (lines_of text) events events' p q)
one_trace once text (Ok events) (Err fault) p q = absurd (not_mixed once (lines_of text) events fault.0 fault.1 p q)
one_trace once text (Err fault) (Ok events) p q = absurd (not_mixed once (lines_of text) events fault.0 fault.1 q p)
one_trace once text (Err (m, c)) (Err (n, d)) p q =
    let same = one_first_bad once (lines_of text) m n c d p q in
    ap (λ k. Err (k, c)) same.0 ∙ ap (λ e. Err (n, e)) same.1
