-- Lines that were read by themselves, behind others: their events stand so many lines further down, and are those of
-- the whole where no time falls.
use Rattle.std.proofs.Common.{◌≡◌, ℕ, suc, ◌+◌, ◌<◌, ◌≤◌, max, List, [], ◌∷◌, ◌++◌, length, get_or, map, take, Option}
use Rattle.std.proofs.Common.{Some, None, Ok, inl, inr, refl, sym, ap, ◌∙◌, subst, arith, append-nil, append_assoc}
use Rattle.std.proofs.Common.{length-append, option_map}
use Rattle.std.specs.Prelude.{All, filter_map}
use Rattle.std.specs.List.{AllPairs, AllZip, enumerate_from}
use Rattle.std.proofs.lemmas.List.{length-map, map_more, map_push, take_all}
use Rattle.std.proofs.lemmas.List.Elements.{All-append, All-map, All-weaker, filter_map-append}
use Rattle.cfs_model.specs.Limits.{greatest_line}
use Rattle.cfs_model.specs.declared.act.Entry.{Entry}
use Rattle.sched_record.specs.Kept.{IsNamed}
use Rattle.sched_record.specs.ReadLines.{AreKept, AreRead, IsLastTime, shifted}
use Rattle.sched_record.specs.Said.{LineSays}
use Rattle.sched_record.specs.Trace.{AreEventsOf}
use Rattle.sched_record.proofs.Pairs.{pairs_map, pairs_tail}
use Rattle.sched_record.proofs.Rising.{pairs_cons}
use Rattle.sched_record.proofs.Splits.{all_at_cut}

-- what a line says, so many lines further down
says_shifted : (number count : ℕ) (line : List ℕ) (say : Option Entry) → number + count ≤ greatest_line
    → LineSays number line (Ok say)
    → LineSays (number + count) line (Ok (option_map (shifted count) say))
says_shifted number count line None few says = (few, says.1)
says_shifted number count line (Some entry) few says = (
  few,
  record {
    cpu = says.1.cpu;
    which = says.1.which;
    rest = says.1.rest;
    event = says.1.event;
    head = says.1.head;
    text = says.1.text;
    act = says.1.act;
    indexed = ap (λ n. n + count) says.1.indexed;
  },
)

-- a numbered line says an event, or nothing
abbrev pub Says : ℕ × List ℕ → Option Entry → Type 0
Says line say = LineSays line.0 line.1 (Ok say)

each_shifted : (n count : ℕ) (lines : List (List ℕ)) (said : List (Option Entry))
    → n + length lines + count ≤ greatest_line + 1
    → AllZip Says (enumerate_from n lines) said
    → AllZip Says (enumerate_from (n + count) lines) (map (option_map (shifted count)) said)
each_shifted n count [] [] few each = tt
each_shifted n count [] (say ∷ said) few each = absurd each
each_shifted n count (line ∷ lines) [] few each = absurd each
each_shifted n count (line ∷ lines) (say ∷ said) few each =
    let rest : AllZip Says (enumerate_from (n + 1 + count) lines) (map (option_map (shifted count)) said) =
    each_shifted (n + 1) count lines said (omega arith) each.1 in (
      says_shifted n count line say (omega arith) each.0,
      subst (λ k. AllZip Says (enumerate_from k lines) (map (option_map (shifted count)) said)) (omega arith) rest,
    )

enumerate_append : {X : Type 0} (n : ℕ) (xs ys : List X)
    → enumerate_from n (xs ++ ys) ≡ enumerate_from n xs ++ enumerate_from (n + length xs) ys
enumerate_append n [] ys = ap (λ k. enumerate_from k ys) (omega arith)
enumerate_append n (x ∷ xs) ys =
    ap (λ rest. (n, x) ∷ rest) (enumerate_append (n + 1) xs ys
    ∙ ap (λ k. enumerate_from (n + 1) xs ++ enumerate_from k ys) (omega arith))

zip_append : {A B : Type 0} (R : A → B → Type 0) (xs zs : List A) (ys ws : List B) → AllZip R xs ys → AllZip R zs ws
    → AllZip R (xs ++ zs) (ys ++ ws)
zip_append R [] zs [] ws all more = more
zip_append R [] zs (y ∷ ys) ws all more = absurd all
zip_append R (x ∷ xs) zs [] ws all more = absurd all
zip_append R (x ∷ xs) zs (y ∷ ys) ws all more = (all.0, zip_append R xs zs ys ws all.1 more)

kept_map : {X : Type 0} (f : X → X) (said : List (Option X))
    → filter_map (λ s. s) (map (option_map f) said) ≡ map f (filter_map (λ s. s) said)
kept_map f [] = refl
kept_map f (None ∷ said) = kept_map f said
kept_map f (Some x ∷ said) = ap (λ xs. f x ∷ xs) (kept_map f said)

-- an order within two lists, and from all of the first to all of the second
pairs_append : {X : Type 0} (R : X → X → Type 0) (xs ys : List X) → AllPairs R xs → AllPairs R ys
    → All (λ x. All (λ y. R x y) ys) xs → AllPairs R (xs ++ ys)
pairs_append R [] ys first second across = second
pairs_append R (x ∷ xs) ys first second across =
    pairs_cons R x (xs ++ ys)
    (All-append (λ y. R x y) xs ys (λ k d h. first 0 (suc k) d (omega arith) (omega arith))
    (λ k d h. across 0 x (omega arith) k d h))
    (pairs_append R xs ys (pairs_tail R x xs first) second (λ k d h. across (suc k) d (omega arith)))

-- times up to one come before those from it on
times_across : (last : ℕ) (events later : List Entry) → All (λ e. e.time ≤ last) events → All (λ e. last ≤ e.time) later
    → All (λ a. All (λ b. a.time ≤ b.time) later) events
times_across last events later before after i d h j e h' =
    let low = before i d h in
    let high = after j e h' in
    omega (arith, low, high)

last_time : (last last' count : ℕ) (events later : List Entry) → All (λ e. last ≤ e.time) later → IsLastTime last events
    → IsLastTime last' later
    → IsLastTime (max last last') (events ++ map (shifted count) later)
last_time last last' count events later after is (inl none) =
    let zero = none.0 in
    let all : events ++ map (shifted count) later ≡ events = ap (λ es. events ++ map (shifted count) es) none.1
    ∙ append-nil events in
    let most : max last last' ≡ last = omega (arith, zero) in
    subst (λ n. IsLastTime n (events ++ map (shifted count) later)) (sym most)
    (subst (λ es. IsLastTime last es) (sym all) is)
last_time last last' count events later after is (inr some) =
    let event = some.1 in
    let at : last ≤ event.time = all_at_cut (λ e. last ≤ e.time) later some.0 event [] some.2 after in
    let time = some.3 in
    let all : events ++ map (shifted count) later ≡ (events ++ map (shifted count) some.0) ++ shifted count event ∷ [] =
    ap (λ es. events ++ map (shifted count) es) some.2 ∙ ap (λ es. events ++ es) (map_push (shifted count) some.0 event)
    ∙ sym (append_assoc events (map (shifted count) some.0) (shifted count event ∷ [])) in
    inr (events ++ map (shifted count) some.0, shifted count event, all, omega (arith, at, time))

-- lines of which none is bad, behind such lines
good_append : (lines more : List (List ℕ)) (events later : List Entry) → AreEventsOf lines events
    → AreEventsOf more later
    → length lines + length more ≤ greatest_line → All (λ a. All (λ b. a.time ≤ b.time) later) events
    → AreEventsOf (lines ++ more) (events ++ map (shifted (length lines)) later)
good_append lines more events later good next few across =
    let count = length lines in
    let all : enumerate_from 1 (lines ++ more) ≡ enumerate_from 1 lines
    ++ enumerate_from (1 + count) more = enumerate_append 1 lines more in
    record {
      said = good.said ++ map (option_map (shifted count)) next.said;
      each = subst (λ ls. AllZip Says ls (good.said ++ map (option_map (shifted count)) next.said)) (sym all)
          (zip_append Says (enumerate_from 1 lines) (enumerate_from (1 + count) more) good.said
          (map (option_map (shifted count)) next.said)
          good.each (each_shifted 1 count more next.said (omega (arith, few)) next.each));
      kept = ap (λ es. es ++ map (shifted count) later) good.kept
          ∙ ap (λ es. filter_map (λ s. s) good.said ++ es) (ap (map (shifted count)) next.kept
          ∙ sym (kept_map (shifted count) next.said))
          ∙ sym (filter_map-append (λ s. s) good.said (map (option_map (shifted count)) next.said));
      in_time = pairs_append (λ a b. a.time ≤ b.time) events (map (shifted count) later) good.in_time
          (pairs_map (λ a b. a.time ≤ b.time) (shifted count) later next.in_time)
          (λ i d h. All-map (λ b. (get_or events i d).time ≤ b.time) (shifted count) later (across i d h));
    }

-- what was read by itself, behind what was read
pub read_append : (lines more : List (List ℕ)) (count count' last last' : ℕ) (events later : List Entry)
    → AreRead lines count last events
    → AreRead more count' last' later → count + count' ≤ greatest_line → All (λ e. e.time ≤ last) events
    → All (λ e. last ≤ e.time) later
    → AreRead (lines ++ more) (count + count') (max last last') (events ++ map (shifted count) later)
read_append lines more count count' last last' events later read next few before after =
    let counted = read.counted in
    let counted' = next.counted in
    record {
      good = subst (λ n. AreEventsOf (lines ++ more) (events ++ map (shifted n) later)) (sym counted)
          (good_append lines more events later read.good next.good (omega (arith, few, counted, counted'))
          (times_across last events later before after));
      counted = omega (arith, counted, counted', length-append lines more);
      last_is = last_time last last' count events later after read.last_is next.last_is;
    }

-- and what its events keep
pub kept_append : (count count' last last' : ℕ) (events later : List Entry) → AreKept events count last
    → AreKept later count' last'
    → All (λ e. last ≤ e.time) later → AreKept (events ++ map (shifted count) later) (count + count') (max last last')
kept_append count count' last last' events later kept next after =
    let moved = map (shifted count) later in
    record {
      in_order = record {
        from_one = All-append (λ e. 0 < e.line) events moved kept.in_order.from_one
            (All-map (λ e. 0 < e.line) (shifted count) later
            (All-weaker (λ e. 0 < e.line) (λ e. 0 < e.line + count) (λ e lt. omega arith) later
            next.in_order.from_one));
        lines_rise = pairs_append (λ a b. a.line < b.line) events moved kept.in_order.lines_rise
            (pairs_map (λ a b. a.line < b.line) (shifted count) later
            (λ i j d lt h. let rise = next.in_order.lines_rise i j d lt h in omega (arith, rise)))
            (λ i d h. All-map (λ b. (get_or events i d).line < b.line) (shifted count) later
            (λ j e h'. let low = kept.lines i d h in let high = next.in_order.from_one j e h' in
            omega (arith, low, high)));
        never_falls = pairs_append (λ a b. a.time ≤ b.time) events moved kept.in_order.never_falls
            (pairs_map (λ a b. a.time ≤ b.time) (shifted count) later next.in_order.never_falls)
            (λ i d h. All-map (λ b. (get_or events i d).time ≤ b.time) (shifted count) later
            (times_across last events later kept.times after i d h));
        named = All-append (λ e. IsNamed e.act) events moved kept.in_order.named
            (All-map (λ e. IsNamed e.act) (shifted count) later next.in_order.named);
      };
      lines = All-append (λ e. e.line ≤ count + count') events moved
          (All-weaker (λ e. e.line ≤ count) (λ e. e.line ≤ count + count') (λ e le. omega arith) events kept.lines)
          (All-map (λ e. e.line ≤ count + count') (shifted count) later
          (All-weaker (λ e. e.line ≤ count') (λ e. e.line + count ≤ count + count') (λ e le. omega arith) later
          next.lines));
      times = All-append (λ e. e.time ≤ max last last') events moved
          (All-weaker (λ e. e.time ≤ last) (λ e. e.time ≤ max last last') (λ e le. omega arith) events kept.times)
          (All-map (λ e. e.time ≤ max last last') (shifted count) later
          (All-weaker (λ e. e.time ≤ last') (λ e. e.time ≤ max last last') (λ e le. omega arith) later next.times));
    }

-- one more of the other's events
pub more_shifted : (count : ℕ) (before events later items : List Entry) (i : ℕ) (event : Entry) → items ≡ later
    → i < length items
    → event ≡ get_or items i event → events ≡ before ++ map (shifted count) (take i later)
    → events ++ shifted count event ∷ [] ≡ before ++ map (shifted count) (take (i + 1) later)
more_shifted count before events later items i event same h is added =
    let f = shifted count in
    let at : event ≡ get_or later i event = is ∙ ap (λ es. get_or es i event) same in
    let within : i < length later = omega (arith, h, ap length same) in
    ap (λ es. es ++ f event ∷ []) added ∙ append_assoc before (map f (take i later)) (f event ∷ [])
    ∙ ap (λ es. before ++ es) (ap (λ e. map f (take i later) ++ f e ∷ []) at ∙ sym (map_more f later i event within))

-- all of them
pub all_shifted : (count : ℕ) (before start events later items : List Entry) (i : ℕ) → items ≡ later → length items ≤ i
    → start ≡ before
    → events ≡ start ++ map (shifted count) (take i later) → events ≡ before ++ map (shifted count) later
all_shifted count before start events later items i same h begins added =
    let end : length later ≤ i = omega (arith, h, ap length same) in
    added ∙ ap (λ es. es ++ map (shifted count) (take i later)) begins
    ∙ ap (λ es. before ++ map (shifted count) es) (take_all i later end)

-- there are no more of them than lines
pub count_shifted : (count count' : ℕ) (events later : List Entry) → length events ≤ count → length later ≤ count'
    → length (events ++ map (shifted count) later) ≤ count + count'
count_shifted count count' events later few few' = simp (length-append, length-map) (omega arith)
