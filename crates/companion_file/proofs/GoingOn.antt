-- What is said later of lines of the trace stands above each line that was reached, and of the start nothing is said
-- once a claim, a change or a charge was: each line's tests say it, and so it is of lines one after another.
use Rattle.std.proofs.Common.{◌≡◌, ℕ, ◌<◌, ◌≤◌, Bool, true, false, not, ◌&&◌, eqb, List, [], ◌∷◌, ◌++◌, length, Option}
use Rattle.std.proofs.Common.{Some, None, Ok, refl, sym, ap, subst, ◌∙◌, append_assoc, inl, inr, arith}
use Rattle.std.specs.Prelude.{MatchOption, is_some, is_none, nat_lt, nat_le, ◌||◌, ◌⊎◌}
use Rattle.std.specs.Option.{option_map_or}
use Rattle.std.specs.List.{last_or}
use Rattle.std.proofs.lemmas.Bool.{and_parts, ne_eqb}
use Rattle.std.proofs.lemmas.Bool.Decides.{nat_tests}
use Rattle.std.proofs.lemmas.List.{append-nil}
use Rattle.std.proofs.lemmas.List.Elements.{All-nil, All-cons, All-append}
use Rattle.cfs_model.specs.declared.claim.Claim.{Claim}
use Rattle.cfs_model.specs.declared.nice_line.NiceLine.{NiceLine}
use Rattle.cfs_model.specs.declared.charge_line.ChargeLine.{ChargeLine}
use Rattle.companion_file.specs.Shape.{Shape, version_line, cpus_line, start_line, floor_line, task_line, claim_line}
use Rattle.companion_file.specs.Shape.{nice_line, idle_line, charge_line}
use Rattle.companion_file.specs.Spelling.{IsFirstLine}
use Rattle.companion_file.specs.Earlier.{Said, summed, has_all_floors, last_claim, last_nice, last_charge}
use Rattle.companion_file.specs.Tests.{may_claim_at, may_change_at, may_charge_at, IsJudgedFirst}
use Rattle.companion_file.specs.Tests.{IsJudgedLater, IsJudged, is_at_start}
use Rattle.companion_file.specs.Draft.{KeepsOrder, with_line}
use Rattle.companion_file.specs.Piecewise.{SaysOn}
use Rattle.companion_file.specs.Reader.{AddsAbove, GoesOn, has_begun, reaches_past}
use Rattle.companion_file.proofs.Lasts.{last_or-push}
use Rattle.companion_file.proofs.KeptOrder.{Passes, all_passed}
use Rattle.companion_file.proofs.GoodLines.{nothing_order, order_judged_on}
use Rattle.companion_file.proofs.Piecewise.{good_line, no_cpus, not_true}

-- ---- nothing more, and more behind more

adds_nothing : {A : Type 0} (line_of : A → ℕ) (said : Said) (old new : List A) → new ≡ old
    → AddsAbove line_of said old new
adds_nothing line_of said old new same = record {
  more = [];
  parts = same ∙ sym (append-nil old);
  above = λ line reached. All-nil (λ x. line < line_of x);
}

adds_then : {A : Type 0} (line_of : A → ℕ) (a b : Said) (first second third : List A)
    → ((line : ℕ) → reaches_past a line ≡ true → reaches_past b line ≡ true) → AddsAbove line_of a first second
    → AddsAbove line_of b second third → AddsAbove line_of a first third
adds_then line_of a b first second third still g h = record {
  more = g.more ++ h.more;
  parts = h.parts ∙ ap (λ xs. xs ++ h.more) g.parts ∙ append_assoc first g.more h.more;
  above = λ line reached. All-append (λ x. line < line_of x) g.more h.more (g.above line reached)
      (h.above line (still line reached));
}

pub goes_nothing : (said : Said) → GoesOn said said
goes_nothing said = record {
  claims = adds_nothing (λ (k : Claim). k.line) said said.claims said.claims refl;
  nices = adds_nothing (λ (k : NiceLine). k.line) said said.nices said.nices refl;
  charges = adds_nothing (λ (k : ChargeLine). k.line) said said.charges said.charges refl;
  start = λ begun. refl;
  begun = λ begun. begun;
  reached = λ line reached. reached;
}

pub goes_then : (a b c : Said) → GoesOn a b → GoesOn b c → GoesOn a c
goes_then a b c g h = record {
  claims = adds_then (λ (k : Claim). k.line) a b a.claims b.claims c.claims g.reached g.claims h.claims;
  nices = adds_then (λ (k : NiceLine). k.line) a b a.nices b.nices c.nices g.reached g.nices h.nices;
  charges = adds_then (λ (k : ChargeLine). k.line) a b a.charges b.charges c.charges g.reached g.charges h.charges;
  start = λ begun. h.start (g.begun begun) ∙ g.start begun;
  begun = λ begun. h.begun (g.begun begun);
  reached = λ line reached. h.reached line (g.reached line reached);
}

-- ---- a line that is reached

-- a line isn't below those of the last claim, change and charge
record IsFromAll (said : Said) (n : ℕ) : Type 0 where
  claims : option_map_or (λ last. nat_le last.line n) (last_claim said) true ≡ true
  nices : option_map_or (λ last. nat_le last.line n) (last_nice said) true ≡ true
  charges : option_map_or (λ last. nat_le last.line n) (last_charge said) true ≡ true

not_below : {A : Type 0} (line_of : A → ℕ) (o : Option A) (n : ℕ)
    → option_map_or (λ last. nat_lt (line_of last) n) o true ≡ true
    → option_map_or (λ last. nat_le (line_of last) n) o true ≡ true
not_below line_of None n above = refl
not_below line_of (Some x) n above = grind (arith, nat_tests)

past_last : {A : Type 0} (line_of : A → ℕ) (o : Option A) (line n : ℕ)
    → option_map_or (λ last. nat_lt line (line_of last)) o false ≡ true
    → option_map_or (λ last. nat_le (line_of last) n) o true ≡ true → line < n
past_last line_of None line n reached from = absurd cc
past_last line_of (Some x) line n reached from = grind (arith, nat_tests)

one_of_three : (a b c : Bool) → (a || b || c) ≡ true → (a ≡ true) ⊎ (b ≡ true) ⊎ (c ≡ true)
one_of_three true b c e = inl refl
one_of_three false true c e = inr (inl refl)
one_of_three false false c e = inr (inr e)

past_reached : (said : Said) (line n : ℕ) → IsFromAll said n → reaches_past said line ≡ true → line < n
past_reached said line n from reached =
    elim (one_of_three _ _ _ reached) [
      | inl e ↦ past_last (λ (k : Claim). k.line) (last_claim said) line n e from.claims
      | inr (inl e) ↦ past_last (λ (k : NiceLine). k.line) (last_nice said) line n e from.nices
      | inr (inr e) ↦ past_last (λ (k : ChargeLine). k.line) (last_charge said) line n e from.charges
    ]

claim_from : (said : Said) (n : ℕ) → may_claim_at said n ≡ true → IsFromAll said n
claim_from said n may =
    let three = and_parts _ _ may in
    let two = and_parts _ _ three.0 in
    record { claims = not_below (λ (k : Claim). k.line) (last_claim said) n two.0; nices = two.1; charges = three.1 }

change_from : (said : Said) (n : ℕ) → may_change_at said n ≡ true → IsFromAll said n
change_from said n may =
    let three = and_parts _ _ may in
    let two = and_parts _ _ three.0 in
    record {
      claims = not_below (λ (k : Claim). k.line) (last_claim said) n two.1;
      nices = not_below (λ (k : NiceLine). k.line) (last_nice said) n two.0;
      charges = three.1;
    }

charge_from : (said : Said) (n : ℕ) → may_charge_at said n ≡ true → IsFromAll said n
charge_from said n may =
    let three = and_parts _ _ may in
    let two = and_parts _ _ three.0 in
    record {
      claims = not_below (λ (k : Claim). k.line) (last_claim said) n three.1;
      nices = not_below (λ (k : NiceLine). k.line) (last_nice said) n two.1;
      charges = not_below (λ (k : ChargeLine). k.line) (last_charge said) n two.0;
    }

adds_one : {A : Type 0} (line_of : A → ℕ) (said : Said) (xs : List A) (x : A) → IsFromAll said (line_of x)
    → AddsAbove line_of said xs (xs ++ x ∷ [])
adds_one line_of said xs x from = record {
  more = x ∷ [];
  parts = refl;
  above = λ line reached. All-cons (λ y. line < line_of y) x [] (past_reached said line (line_of x) from reached)
      (All-nil (λ y. line < line_of y));
}

-- the line of the last of one more element is reached
last_reached : {A : Type 0} (line_of : A → ℕ) (xs : List A) (x : A) (line : ℕ) → line < line_of x
    → option_map_or (λ last. nat_lt line (line_of last))
    (last_or None (xs ++ x ∷ [])) false ≡ true
last_reached line_of xs x line less = rw (last_or-push None xs x) (grind (arith, nat_tests))

first_of_three : (a b c : Bool) → a ≡ true → (a || b || c) ≡ true
first_of_three a b c e = rw e refl

second_of_three : (a b c : Bool) → b ≡ true → (a || b || c) ≡ true
second_of_three true b c e = refl
second_of_three false b c e = rw e refl

third_of_three : (a b c : Bool) → c ≡ true → (a || b || c) ≡ true
third_of_three true b c e = refl
third_of_three false true c e = refl
third_of_three false false c e = e

one_is_some : {A : Type 0} (xs : List A) (x : A) → eqb (length (xs ++ x ∷ [])) 0 ≡ false
one_is_some [] x = refl
one_is_some (y ∷ ys) x = ne_eqb (length (y ∷ ys ++ x ∷ [])) 0 (λ e. absurd (omega (arith, e)))

first_begins : (a b c : Bool) → a ≡ false → not (a && b && c) ≡ true
first_begins a b c e = rw e refl

second_begins : (a b c : Bool) → b ≡ false → not (a && b && c) ≡ true
second_begins true b c e = rw e refl
second_begins false b c e = refl

third_begins : (a b c : Bool) → c ≡ false → not (a && b && c) ≡ true
third_begins true true c e = rw e refl
third_begins true false c e = refl
third_begins false b c e = refl

-- ---- the start

-- once it has begun, no floor is missing, and the version is named
pub record Begins (said : Said) : Type 0 where
  pub order : KeepsOrder said
  pub floors : has_begun said ≡ true → has_all_floors said ≡ true
  pub named : has_begun said ≡ true → is_some said.version ≡ true

pub nothing_begins : Begins (summed [])
nothing_begins = record { order = nothing_order; floors = λ begun. absurd cc; named = λ begun. absurd cc }

-- a line of the start, before it has begun
goes_start : (said after : Said) → after.claims ≡ said.claims → after.nices ≡ said.nices
    → after.charges ≡ said.charges → ¬ (has_begun said ≡ true) → GoesOn said after
goes_start said after claims nices charges early = record {
  claims = adds_nothing (λ (k : Claim). k.line) said said.claims after.claims claims;
  nices = adds_nothing (λ (k : NiceLine). k.line) said said.nices after.nices nices;
  charges = adds_nothing (λ (k : ChargeLine). k.line) said said.charges after.charges charges;
  start = λ begun. absurd (early begun);
  begun = λ begun. absurd (early begun);
  reached = λ line reached. rw (claims, nices, charges) reached;
}

start_begins : (said after : Said) → after.claims ≡ said.claims → after.nices ≡ said.nices
    → after.charges ≡ said.charges → ¬ (has_begun said ≡ true) → KeepsOrder after → Begins after
start_begins said after claims nices charges early order = record {
  order = order;
  floors = λ begun. absurd (early (rw (← claims, ← nices, ← charges) begun));
  named = λ begun. absurd (early (rw (← claims, ← nices, ← charges) begun));
}

at_start_early : (floors a b c : Bool) → (floors && a && b && c) ≡ true → ¬ (not (a && b && c) ≡ true)
at_start_early true true true true e = λ begun. absurd cc
at_start_early true true true false e = absurd cc
at_start_early true true false c e = absurd cc
at_start_early true false b c e = absurd cc
at_start_early false a b c e = absurd cc

early_start : (said : Said) → is_at_start said ≡ true → ¬ (has_begun said ≡ true)
early_start said at = at_start_early (has_all_floors said) (eqb (length said.claims) 0) (eqb (length said.nices) 0)
    (eqb (length said.charges) 0) at

none_said : {A : Type 0} (o : Option A) → is_none o ≡ true → o ≡ None
none_said None e = refl
none_said (Some x) e = absurd cc

floors_need_start : (cpus : Option ℕ) (floors : ℕ) → ((n : ℕ) → cpus ≡ Some n → 1 ≤ n) → floors ≡ 0
    → ¬ (option_map_or (λ n. eqb floors n) cpus false ≡ true)
floors_need_start None floors some none whole = absurd cc
floors_need_start (Some n) floors some none whole =
    let least : 1 ≤ n = some n refl in
    grind (arith, nat_tests)

early_before : (said : Said) → KeepsOrder said → (has_begun said ≡ true → has_all_floors said ≡ true)
    → is_none said.start ≡ true → ¬ (has_begun said ≡ true)
early_before said order floors none begun =
    floors_need_start said.cpus (length said.floors) (λ n e. (order.cpus_kept n e).0)
    (order.floors_after_start (none_said said.start none)) (floors begun)

-- ---- one line

-- a good line is the first one, or it passes every test
line_sort_at : (version : Option ℕ) (said : Said) (line : List ℕ) (x : Shape) → said.version ≡ version
    → MatchOption version (IsJudgedFirst line (Ok x)) (λ v. IsJudgedLater v said line (Ok x))
    → ((said.version ≡ None) × ((n : ℕ) × IsFirstLine line n × (x ≡ version_line n)))
    ⊎ ((is_some said.version ≡ true) × Passes said x)
line_sort_at None said line x e (inl p) =
    let same : x ≡ version_line p.0 = let f = p.2 in cc in
    inl (e, (p.0, p.1, same))
line_sort_at None said line x e (inr p) = let wrong = p.1 in absurd cc
line_sort_at (Some v) said line x e judged =
    inr (rw e refl, all_passed said x (good_line v said line x judged).passed)

pub line_sort : (said : Said) (line : List ℕ) (x : Shape) → IsJudged said line (Ok x)
    → ((said.version ≡ None) × ((n : ℕ) × IsFirstLine line n × (x ≡ version_line n)))
    ⊎ ((is_some said.version ≡ true) × Passes said x)
line_sort said line x judged = line_sort_at said.version said line x refl judged

-- what was said with one more line goes on, and has begun in order
record GoesInOrder (said after : Said) : Type 0 where
  goes : GoesOn said after
  begins : Begins after

in_order_before : (said after : Said) → after.claims ≡ said.claims → after.nices ≡ said.nices
    → after.charges ≡ said.charges → ¬ (has_begun said ≡ true) → KeepsOrder after → GoesInOrder said after
in_order_before said after claims nices charges early order = record {
  goes = goes_start said after claims nices charges early;
  begins = start_begins said after claims nices charges early order;
}

passed_line : (said : Said) (x : Shape) → Begins said → is_some said.version ≡ true → Passes said x
    → KeepsOrder (with_line said x) → GoesInOrder said (with_line said x)
passed_line said (version_line n) begins named passes order = let turn = passes.turn in absurd cc
passed_line said (cpus_line n) begins named passes order =
    in_order_before said (with_line said (cpus_line n)) refl refl refl
    (λ begun. no_cpus said.cpus (length said.floors) (begins.floors begun) passes.turn) order
passed_line said (start_line seconds nanoseconds) begins named passes order =
    in_order_before said (with_line said (start_line seconds nanoseconds)) refl refl refl
    (early_before said begins.order begins.floors (and_parts (is_some said.cpus) (is_none said.start) passes.turn).1)
    order
passed_line said (floor_line cpu floor) begins named passes order =
    in_order_before said (with_line said (floor_line cpu floor)) refl refl refl
    (λ begun. not_true (has_all_floors said) (begins.floors begun)
    (and_parts (is_some said.start) (not (has_all_floors said)) passes.turn).1) order
passed_line said (task_line task) begins named passes order =
    in_order_before said (with_line said (task_line task)) refl refl refl
    (early_start said (and_parts (is_at_start said) (eqb (length said.idles) 0) passes.turn).0) order
passed_line said (idle_line idle) begins named passes order =
    in_order_before said (with_line said (idle_line idle)) refl refl refl (early_start said passes.turn) order
passed_line said (claim_line k) begins named passes order =
    let from = claim_from said k.line passes.above in
    record {
      goes = record {
        claims = adds_one (λ (c : Claim). c.line) said said.claims k from;
        nices = adds_nothing (λ (c : NiceLine). c.line) said said.nices said.nices refl;
        charges = adds_nothing (λ (c : ChargeLine). c.line) said said.charges said.charges refl;
        start = λ begun. refl;
        begun = λ begun. first_begins _ _ _ (one_is_some said.claims k);
        reached = λ line reached. first_of_three _ _ _
            (last_reached (λ (c : Claim). c.line) said.claims k line (past_reached said line k.line from reached));
      };
      begins = record { order = order; floors = λ begun. passes.turn; named = λ begun. named };
    }
passed_line said (nice_line k) begins named passes order =
    let from = change_from said k.line passes.above in
    record {
      goes = record {
        claims = adds_nothing (λ (c : Claim). c.line) said said.claims said.claims refl;
        nices = adds_one (λ (c : NiceLine). c.line) said said.nices k from;
        charges = adds_nothing (λ (c : ChargeLine). c.line) said said.charges said.charges refl;
        start = λ begun. refl;
        begun = λ begun. second_begins _ _ _ (one_is_some said.nices k);
        reached = λ line reached. second_of_three _ _ _
            (last_reached (λ (c : NiceLine). c.line) said.nices k line (past_reached said line k.line from reached));
      };
      begins = record { order = order; floors = λ begun. passes.turn; named = λ begun. named };
    }
passed_line said (charge_line k) begins named passes order =
    let from = charge_from said k.line passes.above in
    record {
      goes = record {
        claims = adds_nothing (λ (c : Claim). c.line) said said.claims said.claims refl;
        nices = adds_nothing (λ (c : NiceLine). c.line) said said.nices said.nices refl;
        charges = adds_one (λ (c : ChargeLine). c.line) said said.charges k from;
        start = λ begun. refl;
        begun = λ begun. third_begins (eqb (length said.claims) 0) (eqb (length said.nices) 0) _
            (one_is_some said.charges k);
        reached = λ line reached. third_of_three (option_map_or (λ last. nat_lt line last.line) (last_claim said) false)
            (option_map_or (λ last. nat_lt line last.line) (last_nice said) false) _
            (last_reached (λ (c : ChargeLine). c.line) said.charges k line (past_reached said line k.line from
            reached));
      };
      begins = record { order = order; floors = λ begun. passes.turn; named = λ begun. named };
    }

no_name : (version : Option ℕ) → version ≡ None → ¬ (is_some version ≡ true)
no_name None e some = absurd cc
no_name (Some v) e some = absurd cc

judged_in_order : (said : Said) (line : List ℕ) (x : Shape) → Begins said → IsJudged said line (Ok x)
    → GoesInOrder said (with_line said x)
judged_in_order said line x begins judged =
    let order = order_judged_on said line x begins.order judged in
    elim (line_sort said line x judged) [
      | inl p ↦
          let parts = subst (λ (y : Shape). (KeepsOrder (with_line said y)) → GoesInOrder said (with_line said y))
          (sym p.1.2) (λ o. in_order_before said (with_line said (version_line p.1.0)) refl refl refl
          (λ begun. no_name said.version p.0 (begins.named begun)) o) in
          parts order
      | inr p ↦ passed_line said x begins p.0 p.1 order
    ]

-- ---- lines

in_order_on : (said after : Said) (lines : List (List ℕ)) → Begins said → SaysOn said lines after
    → GoesInOrder said after
in_order_on said after [] begins says =
    subst (GoesInOrder said) (sym says) (record { goes = goes_nothing said; begins = begins })
in_order_on said after (line ∷ lines) begins (inl p) = in_order_on said after lines begins p.1
in_order_on said after (line ∷ lines) begins (inr p) =
    let step = judged_in_order said line p.1.0 begins p.1.1 in
    let rest = in_order_on (with_line said p.1.0) after lines step.begins p.1.2 in
    record { goes = goes_then said (with_line said p.1.0) after step.goes rest.goes; begins = rest.begins }

-- what good lines say has begun in order,
pub begins_on : (said after : Said) (lines : List (List ℕ)) → Begins said → SaysOn said lines after → Begins after
begins_on said after lines begins says = (in_order_on said after lines begins says).begins

-- and goes on
pub goes_on : (said after : Said) (lines : List (List ℕ)) → Begins said → SaysOn said lines after → GoesOn said after
goes_on said after lines begins says = (in_order_on said after lines begins says).goes
