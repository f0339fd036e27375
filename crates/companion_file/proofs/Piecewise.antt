-- A piece that was read behind the head alone says the same behind all that was said before it: its lines are claims,
-- changes of nice values and charges, each may follow what was said since the first one may, and what else a line is
-- tested for stands in the head.
use Rattle.std.proofs.Common.{◌≡◌, ℕ, ◌<◌, zero, suc, Bool, true, false, not, ◌&&◌, eqb, List, [], ◌∷◌, ◌++◌, length}
use Rattle.std.proofs.Common.{map, get_or, Option, Some, None, Result, Ok, Err, Vec, IfOk, refl, sym, ap, subst, ◌∙◌}
use Rattle.std.proofs.Common.{append_assoc, inl, inr, arith}
use Rattle.std.specs.Prelude.{All, AllPairs, MatchOption, is_some, is_none, nat_lt, nat_le}
use Rattle.std.specs.Option.{option_map_or}
use Rattle.std.specs.List.{AllZip, last_or, flat_map}
use Rattle.std.proofs.lemmas.Bool.{and_parts}
use Rattle.std.proofs.lemmas.Bool.Decides.{nat_tests}
use Rattle.std.proofs.lemmas.List.{append-nil}
use Rattle.std.proofs.lemmas.List.Elements.{All-head, All-tail}
use Rattle.cfs_model.specs.declared.claim.Claim.{Claim}
use Rattle.cfs_model.specs.declared.nice_line.NiceLine.{NiceLine}
use Rattle.cfs_model.specs.declared.charge_line.ChargeLine.{ChargeLine}
use Rattle.companion_file.specs.Shape.{Shape, version_line, cpus_line, start_line, floor_line, task_line, claim_line}
use Rattle.companion_file.specs.Shape.{nice_line, idle_line, charge_line}
use Rattle.companion_file.specs.Spelling.{IsControlGroup, IsSpelled}
use Rattle.companion_file.specs.Earlier.{Said, summed, has_all_floors, last_claim, last_nice, last_charge}
use Rattle.companion_file.specs.Tests.{fault_of, tested, may_claim_at, may_change_at, may_charge_at, IsJudgedFirst}
use Rattle.companion_file.specs.Tests.{IsJudgedLater, IsJudged}
use Rattle.companion_file.specs.Draft.{KeepsOrder, IsCompleted, Takes, with_line}
use Rattle.companion_file.specs.Companion.{CompanionView, AreGood, IsRead}
use Rattle.companion_file.specs.Piecewise.{SaysOn, AreReadApart, head_of, with_piece, ClaimsFollow, ChangesFollow}
use Rattle.companion_file.specs.Piecewise.{ChargesFollow, FollowsOn}
use Rattle.companion_file.proofs.Faults.{no_fault}
use Rattle.companion_file.proofs.KeptOrder.{Passes, all_passed}
use Rattle.companion_file.proofs.GoodLines.{order_judged_on, tested_ok}
use Rattle.companion_file.proofs.Summing.{summed-push}

-- ---- lines one after another

pub said_then : (first second third : Said) (lines more : List (List ℕ)) → SaysOn first lines second
    → SaysOn second more third → SaysOn first (lines ++ more) third
said_then first second third [] more says next = subst (λ (s : Said). SaysOn s more third) says next
said_then first second third (line ∷ lines) more (inl p) next =
    inl (p.0, said_then first second third lines more p.1 next)
said_then first second third (line ∷ lines) more (inr p) next =
    inr (p.0, (p.1.0, p.1.1, said_then (with_line first p.1.0) second third lines more p.1.2 next))

-- what is said keeps the order
pub order_on : (said after : Said) (lines : List (List ℕ)) → KeepsOrder said → SaysOn said lines after
    → KeepsOrder after
order_on said after [] order says = subst KeepsOrder (sym says) order
order_on said after (line ∷ lines) order (inl p) = order_on said after lines order p.1
order_on said after (line ∷ lines) order (inr p) =
    order_on (with_line said p.1.0) after lines (order_judged_on said line p.1.0 order p.1.1) p.1.2

-- a line that was taken keeps the order
pub taken_order : (old new : Said) (line : List ℕ) (u : Unit {0}) → KeepsOrder old → Takes old line (Ok u) new
    → KeepsOrder new
taken_order old new line u order (inl p) = subst KeepsOrder (sym p.1) order
taken_order old new line u order (inr p) = subst KeepsOrder (sym p.1.2) (order_judged_on old line p.1.0 order p.1.1)

-- a line that was taken, and those behind it
pub taken_then : (old new after : Said) (lines : List (List ℕ)) (line : List ℕ) (more : List (List ℕ)) (u : Unit {0})
    → lines ≡ line ∷ more → Takes old line (Ok u) new → SaysOn new more after → SaysOn old lines after
taken_then old new after lines line more u parts (inl p) says =
    rw parts (inl (p.0, subst (λ (s : Said). SaysOn s more after) p.1 says))
taken_then old new after lines line more u parts (inr p) says =
    rw parts (inr (p.0, (p.1.0, p.1.1, subst (λ (s : Said). SaysOn s more after) p.1.2 says)))

-- where no line is left nothing more is said
pub said_at_end : (said : Said) (lines : List (List ℕ)) → lines ≡ [] → SaysOn said lines said
said_at_end said lines none = rw none refl

-- what is said behind lines is what all of them say, taken together
pub good_on : (earlier : List Shape) (after : Said) (lines : List (List ℕ)) → SaysOn (summed earlier) lines after
    → (said : List Shape) × AreGood earlier lines said × (after ≡ summed said)
good_on earlier after [] says = (earlier, refl, says)
good_on earlier after (line ∷ lines) (inl p) =
    let rest = good_on earlier after lines p.1 in
    (rest.0, inl (p.0, rest.1), rest.2)
good_on earlier after (line ∷ lines) (inr p) =
    let x = p.1.0 in
    let rest = good_on (earlier ++ x ∷ []) after lines
    (subst (λ (s : Said). SaysOn s lines after) (sym (summed-push earlier x)) p.1.2) in
    (rest.0, inr (p.0, (x, p.1.1, rest.1)), rest.2)

-- ---- what lines add

record SaysMore (said after : Said) : Type 0 where
  claims : (more : List Claim) × (after.claims ≡ said.claims ++ more)
  nices : (more : List NiceLine) × (after.nices ≡ said.nices ++ more)
  charges : (more : List ChargeLine) × (after.charges ≡ said.charges ++ more)
  tasks : after.tasks ≡ [] → said.tasks ≡ []
  idles : after.idles ≡ [] → said.idles ≡ []

grows_nothing : (said : Said) → SaysMore said said
grows_nothing said = record {
  claims = ([], sym (append-nil said.claims));
  nices = ([], sym (append-nil said.nices));
  charges = ([], sym (append-nil said.charges));
  tasks = λ e. e;
  idles = λ e. e;
}

pub no_push : {A : Type 0} (xs : List A) (x : A) → ¬ (xs ++ x ∷ [] ≡ [])
no_push [] x e = absurd cc
no_push (y ∷ ys) x e = absurd cc

pub map_nil : {A B : Type 0} (f : A → B) (xs : List A) → map f xs ≡ [] → xs ≡ []
map_nil f [] e = refl
map_nil f (x ∷ xs) e = absurd cc

grows_line : (said : Said) (x : Shape) → SaysMore said (with_line said x)
grows_line said (version_line n) = record {
  claims = ([], sym (append-nil said.claims));
  nices = ([], sym (append-nil said.nices));
  charges = ([], sym (append-nil said.charges));
  tasks = λ e. e;
  idles = λ e. e;
}
grows_line said (cpus_line n) = record {
  claims = ([], sym (append-nil said.claims));
  nices = ([], sym (append-nil said.nices));
  charges = ([], sym (append-nil said.charges));
  tasks = λ e. e;
  idles = λ e. e;
}
grows_line said (start_line seconds nanoseconds) =
    record {
      claims = ([], sym (append-nil said.claims));
      nices = ([], sym (append-nil said.nices));
      charges = ([], sym (append-nil said.charges));
      tasks = λ e. e;
      idles = λ e. e;
    }
grows_line said (floor_line cpu floor) = record {
  claims = ([], sym (append-nil said.claims));
  nices = ([], sym (append-nil said.nices));
  charges = ([], sym (append-nil said.charges));
  tasks = λ e. e;
  idles = λ e. e;
}
grows_line said (task_line t) = record {
  claims = ([], sym (append-nil said.claims));
  nices = ([], sym (append-nil said.nices));
  charges = ([], sym (append-nil said.charges));
  tasks = λ e. absurd (no_push said.tasks _ e);
  idles = λ e. e;
}
grows_line said (claim_line k) = record {
  claims = (k ∷ [], refl);
  nices = ([], sym (append-nil said.nices));
  charges = ([], sym (append-nil said.charges));
  tasks = λ e. e;
  idles = λ e. e;
}
grows_line said (nice_line k) = record {
  claims = ([], sym (append-nil said.claims));
  nices = (k ∷ [], refl);
  charges = ([], sym (append-nil said.charges));
  tasks = λ e. e;
  idles = λ e. e;
}
grows_line said (idle_line k) = record {
  claims = ([], sym (append-nil said.claims));
  nices = ([], sym (append-nil said.nices));
  charges = ([], sym (append-nil said.charges));
  tasks = λ e. map_nil _ said.tasks e;
  idles = λ e. absurd (no_push said.idles k e);
}
grows_line said (charge_line k) = record {
  claims = ([], sym (append-nil said.claims));
  nices = ([], sym (append-nil said.nices));
  charges = (k ∷ [], refl);
  tasks = λ e. e;
  idles = λ e. e;
}

grows_then : (a b c : Said) → SaysMore a b → SaysMore b c → SaysMore a c
grows_then a b c g h =
    record {
      claims = (
        g.claims.0 ++ h.claims.0,
        h.claims.1 ∙ ap (λ (ks : List Claim). ks ++ h.claims.0) g.claims.1
            ∙ append_assoc a.claims g.claims.0 h.claims.0,
      );
      nices = (
        g.nices.0 ++ h.nices.0,
        h.nices.1 ∙ ap (λ (ks : List NiceLine). ks ++ h.nices.0) g.nices.1
            ∙ append_assoc a.nices g.nices.0 h.nices.0,
      );
      charges = (
        g.charges.0 ++ h.charges.0,
        h.charges.1 ∙ ap (λ (ks : List ChargeLine). ks ++ h.charges.0) g.charges.1
            ∙ append_assoc a.charges g.charges.0 h.charges.0,
      );
      tasks = λ e. g.tasks (h.tasks e);
      idles = λ e. g.idles (h.idles e);
    }

grows : (said after : Said) (lines : List (List ℕ)) → SaysOn said lines after → SaysMore said after
grows said after [] says = subst (SaysMore said) (sym says) (grows_nothing said)
grows said after (line ∷ lines) (inl p) = grows said after lines p.1
grows said after (line ∷ lines) (inr p) = grows_then said (with_line said p.1.0) after (grows_line said p.1.0)
    (grows (with_line said p.1.0) after lines p.1.2)

-- ---- all may follow where the first may

-- where it is so of a number that an element has, it is so of those that the ones behind it have
all_from_first : {A : Type 0} (key : A → ℕ) (P : ℕ → Type 0) → ((a b : ℕ) → a < b → P a → P b) → (x : A) (xs : List A)
    → AllPairs (λ a b. key a < key b) (x ∷ xs) → P (key x) → All (λ y. P (key y)) (x ∷ xs)
all_from_first key P up x xs rises first zero d h = first
all_from_first key P up x xs rises first (suc k) d h =
    up (key x) (key (get_or xs k d)) (rises 0 (suc k) d (omega arith) h) first

above_up : (o : Option Claim) (a b : ℕ) → a < b → option_map_or (λ last. nat_lt last.line a) o true ≡ true
    → option_map_or (λ last. nat_lt last.line b) o true ≡ true
above_up None a b less ok = refl
above_up (Some k) a b less ok = grind (arith, nat_tests)

from_up : (o : Option NiceLine) (a b : ℕ) → a < b → option_map_or (λ last. nat_le last.line a) o true ≡ true
    → option_map_or (λ last. nat_le last.line b) o true ≡ true
from_up None a b less ok = refl
from_up (Some k) a b less ok = grind (arith, nat_tests)

behind_up : (o : Option NiceLine) (a b : ℕ) → a < b → option_map_or (λ last. nat_lt last.line a) o true ≡ true
    → option_map_or (λ last. nat_lt last.line b) o true ≡ true
behind_up None a b less ok = refl
behind_up (Some k) a b less ok = grind (arith, nat_tests)

still_up : (o : Option ChargeLine) (a b : ℕ) → a < b → option_map_or (λ last. nat_le last.line a) o true ≡ true
    → option_map_or (λ last. nat_le last.line b) o true ≡ true
still_up None a b less ok = refl
still_up (Some k) a b less ok = grind (arith, nat_tests)

past_up : (o : Option ChargeLine) (a b : ℕ) → a < b → option_map_or (λ last. nat_lt last.line a) o true ≡ true
    → option_map_or (λ last. nat_lt last.line b) o true ≡ true
past_up None a b less ok = refl
past_up (Some k) a b less ok = grind (arith, nat_tests)

pub both_true : (a b : Bool) → a ≡ true → b ≡ true → (a && b) ≡ true
both_true a b e f = rw (e, f) refl

claim_up : (said : Said) (a b : ℕ) → a < b → may_claim_at said a ≡ true → may_claim_at said b ≡ true
claim_up said a b less ok =
    let three = and_parts _ _ ok in
    let parts = and_parts _ _ three.0 in
    both_true _ _
    (both_true _ _ (above_up (last_claim said) a b less parts.0) (from_up (last_nice said) a b less parts.1))
    (still_up (last_charge said) a b less three.1)

change_up : (said : Said) (a b : ℕ) → a < b → may_change_at said a ≡ true → may_change_at said b ≡ true
change_up said a b less ok =
    let three = and_parts _ _ ok in
    let parts = and_parts _ _ three.0 in
    both_true _ _
    (both_true _ _ (behind_up (last_nice said) a b less parts.0) (above_up (last_claim said) a b less parts.1))
    (still_up (last_charge said) a b less three.1)

charge_up : (said : Said) (a b : ℕ) → a < b → may_charge_at said a ≡ true → may_charge_at said b ≡ true
charge_up said a b less ok =
    let three = and_parts _ _ ok in
    let parts = and_parts _ _ three.0 in
    both_true _ _
    (both_true _ _ (past_up (last_charge said) a b less parts.0) (behind_up (last_nice said) a b less parts.1))
    (above_up (last_claim said) a b less three.1)

all_claims : (said : Said) (claims : List Claim) → AllPairs (λ a b. a.line < b.line) claims → ClaimsFollow said claims
    → All (λ k. may_claim_at said k.line ≡ true) claims
all_claims said [] rises first = λ k d h. absurd (omega arith)
all_claims said (claim ∷ claims) rises first = all_from_first (λ k. k.line) (λ n. may_claim_at said n ≡ true)
    (claim_up said) claim claims rises first

all_changes : (said : Said) (nices : List NiceLine) → AllPairs (λ a b. a.line < b.line) nices → ChangesFollow said nices
    → All (λ k. may_change_at said k.line ≡ true) nices
all_changes said [] rises first = λ k d h. absurd (omega arith)
all_changes said (change ∷ changes) rises first =
    all_from_first (λ k. k.line) (λ n. may_change_at said n ≡ true) (change_up said) change changes rises first

all_charges : (said : Said) (charges : List ChargeLine) → AllPairs (λ a b. a.line < b.line) charges
    → ChargesFollow said charges → All (λ k. may_charge_at said k.line ≡ true) charges
all_charges said [] rises first = λ k d h. absurd (omega arith)
all_charges said (charge ∷ charges) rises first =
    all_from_first (λ k. k.line) (λ n. may_charge_at said n ≡ true) (charge_up said) charge charges rises first

-- ---- the last of two lists

pub last_of_second : {A : Type 0} (o : Option A) (xs : List A) (y : A) (ys : List A)
    → last_or o (xs ++ y ∷ ys) ≡ last_or (Some y) ys
last_of_second o [] y ys = refl
last_of_second o (x ∷ xs) y ys = last_of_second (Some x) xs y ys

-- what is so of the last of each is so of the last of both
last_of_both : {A : Type 0} (test : A → Bool) (xs ys : List A) → option_map_or test (last_or None xs) true ≡ true
    → option_map_or test (last_or None ys) true ≡ true → option_map_or test (last_or None (xs ++ ys)) true ≡ true
last_of_both test xs [] first second = rw (append-nil xs) first
last_of_both test xs (y ∷ ys) first second = rw (last_of_second None xs y ys) second

claim_of_both : (said piece : Said) (line : ℕ) → may_claim_at said line ≡ true → may_claim_at piece line ≡ true
    → may_claim_at (with_piece said piece) line ≡ true
claim_of_both said piece line first second =
    let three = and_parts _ _ first in
    let others = and_parts _ _ second in
    let a = and_parts _ _ three.0 in
    let b = and_parts _ _ others.0 in
    both_true _ _
    (both_true _ _ (last_of_both (λ last. nat_lt last.line line) said.claims piece.claims a.0 b.0)
    (last_of_both (λ last. nat_le last.line line) said.nices piece.nices a.1 b.1))
    (last_of_both (λ last. nat_le last.line line) said.charges piece.charges three.1 others.1)

change_of_both : (said piece : Said) (line : ℕ) → may_change_at said line ≡ true → may_change_at piece line ≡ true
    → may_change_at (with_piece said piece) line ≡ true
change_of_both said piece line first second =
    let three = and_parts _ _ first in
    let others = and_parts _ _ second in
    let a = and_parts _ _ three.0 in
    let b = and_parts _ _ others.0 in
    both_true _ _
    (both_true _ _ (last_of_both (λ last. nat_lt last.line line) said.nices piece.nices a.0 b.0)
    (last_of_both (λ last. nat_lt last.line line) said.claims piece.claims a.1 b.1))
    (last_of_both (λ last. nat_le last.line line) said.charges piece.charges three.1 others.1)

charge_of_both : (said piece : Said) (line : ℕ) → may_charge_at said line ≡ true → may_charge_at piece line ≡ true
    → may_charge_at (with_piece said piece) line ≡ true
charge_of_both said piece line first second =
    let three = and_parts _ _ first in
    let others = and_parts _ _ second in
    let a = and_parts _ _ three.0 in
    let b = and_parts _ _ others.0 in
    both_true _ _
    (both_true _ _ (last_of_both (λ last. nat_lt last.line line) said.charges piece.charges a.0 b.0)
    (last_of_both (λ last. nat_lt last.line line) said.nices piece.nices a.1 b.1))
    (last_of_both (λ last. nat_lt last.line line) said.claims piece.claims three.1 others.1)

-- ---- one line

-- a piece so far, read behind the head of what was said
record IsBehindHead (said piece : Said) : Type 0 where
  version : piece.version ≡ said.version
  cpus : piece.cpus ≡ said.cpus
  start : piece.start ≡ said.start
  floors : piece.floors ≡ said.floors

-- a good line, in the words of its tests
pub record IsGoodLine (version : Option ℕ) (said : Said) (line : List ℕ) (x : Shape) : Type 0 where
  pub format : ℕ
  pub format_is : version ≡ Some format
  pub plain : ¬ IsControlGroup line
  pub spelled : IsSpelled format line x
  pub passed : fault_of said x ≡ None

pub good_line : (v : ℕ) (said : Said) (line : List ℕ) (x : Shape) → IsJudgedLater v said line (Ok x)
    → IsGoodLine (Some v) said line x
good_line v said line x (inl p) = let wrong = p.1 in absurd cc
good_line v said line x (inr (inl p)) = let wrong = p.2 in absurd cc
good_line v said line x (inr (inr p)) =
    let t = tested_ok said p.1.0 x p.1.2 in
    record {
      format = v;
      format_is = refl;
      plain = p.0;
      spelled = subst (λ (y : Shape). IsSpelled v line y) (sym t.1) p.1.1;
      passed = ap (fault_of said) t.1 ∙ t.0;
    }

good_at : (version : Option ℕ) (said : Said) (line : List ℕ) (x : Shape) → is_some version ≡ true
    → MatchOption version (IsJudgedFirst line (Ok x)) (λ v. IsJudgedLater v said line (Ok x))
    → IsGoodLine version said line x
good_at None said line x begun judged = absurd cc
good_at (Some v) said line x begun judged = good_line v said line x judged

judged_again : (version : Option ℕ) (piece said : Said) (line : List ℕ) (x : Shape) → IsGoodLine version piece line x
    → said.version ≡ version → fault_of said x ≡ None → IsJudged said line (Ok x)
judged_again version piece said line x good is none =
    let passed : Ok x ≡ tested said x = rw none refl in
    subst (λ (o : Option ℕ). MatchOption o (IsJudgedFirst line (Ok x)) (λ w. IsJudgedLater w said line (Ok x)))
    (sym (is ∙ good.format_is)) (inr (inr (good.plain, (x, good.spelled, passed))))

-- a claim, a change or a charge of a piece, behind what was said
record IsSaidBehind (said piece : Said) (x : Shape) : Type 0 where
  passed : fault_of (with_piece said piece) x ≡ None
  behind : IsBehindHead said (with_line piece x)
  same : with_piece said (with_line piece x) ≡ with_line (with_piece said piece) x

pub no_cpus : (cpus : Option ℕ) (n : ℕ) → option_map_or (λ k. eqb n k) cpus false ≡ true → ¬ (is_none cpus ≡ true)
no_cpus None n all none = absurd cc
no_cpus (Some k) n all none = absurd cc

some_and_none : {A : Type 0} (o : Option A) → is_some o ≡ true → ¬ (is_none o ≡ true)
some_and_none None some none = absurd cc
some_and_none (Some k) some none = absurd cc

pub not_true : (b : Bool) → b ≡ true → ¬ (not b ≡ true)
not_true true e f = absurd cc
not_true false e f = absurd cc

so_of_one : {A : Type 0} (P : A → Type 0) (xs ys : List A) (y : A) → All P ((xs ++ y ∷ []) ++ ys) → P y
so_of_one P [] ys y all = All-head P y ys all
so_of_one P (x ∷ xs) ys y all = so_of_one P xs ys y (All-tail P x ((xs ++ y ∷ []) ++ ys) all)

-- each claim, change and charge of what was said later may follow what was said
record MayAllFollow (said after : Said) : Type 0 where
  claims : All (λ k. may_claim_at said k.line ≡ true) after.claims
  changes : All (λ k. may_change_at said k.line ≡ true) after.nices
  charges : All (λ k. may_charge_at said k.line ≡ true) after.charges

said_behind : (said piece after : Said) (x : Shape) → FollowsOn said after → MayAllFollow said after
    → IsBehindHead said piece → Passes piece x → SaysMore (with_line piece x) after → IsSaidBehind said piece x
said_behind said piece after (version_line n) follows may behind passes grown = let turn = passes.turn in
    absurd cc
said_behind said piece after (cpus_line n) follows may behind passes grown =
    absurd (no_cpus said.cpus (length said.floors) follows.floors (rw behind.cpus at passes.turn))
said_behind said piece after (start_line seconds nanoseconds) follows may behind passes grown =
    let turn = and_parts (is_some piece.cpus) (is_none piece.start) passes.turn in
    absurd (some_and_none said.start follows.started (rw behind.start at turn.1))
said_behind said piece after (floor_line cpu floor) follows may behind passes grown =
    let turn = and_parts (is_some piece.start) (not (has_all_floors piece)) passes.turn in
    absurd (not_true (has_all_floors said) follows.floors (rw (behind.cpus, behind.floors) at turn.1))
said_behind said piece after (task_line t) follows may behind passes grown =
    absurd (no_push piece.tasks _ (grown.tasks follows.no_task))
said_behind said piece after (claim_line k) follows may behind passes grown =
    let here = so_of_one (λ (c : Claim). may_claim_at said c.line ≡ true) piece.claims grown.claims.0 k
    (subst (λ (ks : List Claim). All (λ c. may_claim_at said c.line ≡ true) ks) grown.claims.1 may.claims) in
    record {
      passed = no_fault (with_piece said piece) (claim_line k) follows.floors passes.limits refl refl refl
          (claim_of_both said piece k.line here passes.above) refl;
      behind = record { version = behind.version; cpus = behind.cpus; start = behind.start; floors = behind.floors };
      same = ap (λ (ks : List Claim). record said {
        claims = ks;
        nices = said.nices ++ piece.nices;
        charges = said.charges ++ piece.charges;
      })
          (sym (append_assoc said.claims piece.claims (k ∷ [])));
    }
said_behind said piece after (nice_line k) follows may behind passes grown =
    let here = so_of_one (λ (c : NiceLine). may_change_at said c.line ≡ true) piece.nices grown.nices.0 k
    (subst (λ (ks : List NiceLine). All (λ c. may_change_at said c.line ≡ true) ks) grown.nices.1 may.changes) in
    record {
      passed = no_fault (with_piece said piece) (nice_line k) follows.floors passes.limits refl refl refl
          (change_of_both said piece k.line here passes.above) refl;
      behind = record { version = behind.version; cpus = behind.cpus; start = behind.start; floors = behind.floors };
      same = ap (λ (ks : List NiceLine). record said {
        claims = said.claims ++ piece.claims;
        nices = ks;
        charges = said.charges ++ piece.charges;
      })
          (sym (append_assoc said.nices piece.nices (k ∷ [])));
    }
said_behind said piece after (idle_line k) follows may behind passes grown =
    absurd (no_push piece.idles k (grown.idles follows.no_idle))
said_behind said piece after (charge_line k) follows may behind passes grown =
    let here = so_of_one (λ (c : ChargeLine). may_charge_at said c.line ≡ true) piece.charges grown.charges.0 k
    (subst (λ (ks : List ChargeLine). All (λ c. may_charge_at said c.line ≡ true) ks) grown.charges.1 may.charges) in
    record {
      passed = no_fault (with_piece said piece) (charge_line k) follows.floors passes.limits refl refl refl
          (charge_of_both said piece k.line here passes.above) refl;
      behind = record { version = behind.version; cpus = behind.cpus; start = behind.start; floors = behind.floors };
      same = ap (λ (ks : List ChargeLine). record said {
        claims = said.claims ++ piece.claims;
        nices = said.nices ++ piece.nices;
        charges = ks;
      })
          (sym (append_assoc said.charges piece.charges (k ∷ [])));
    }

-- ---- a piece

said_from : (said piece after : Said) (lines : List (List ℕ)) → FollowsOn said after → MayAllFollow said after
    → IsBehindHead said piece → SaysOn piece lines after → SaysOn (with_piece said piece) lines (with_piece said after)
said_from said piece after [] follows may behind says = ap (with_piece said) says
said_from said piece after (line ∷ lines) follows may behind (inl p) =
    inl (p.0, said_from said piece after lines follows may behind p.1)
said_from said piece after (line ∷ lines) follows may behind (inr p) =
    let x = p.1.0 in
    let good = good_at piece.version piece line x (rw (← behind.version) at follows.begun) p.1.1 in
    let step = said_behind said piece after x follows may behind (all_passed piece x good.passed)
    (grows (with_line piece x) after lines p.1.2) in
    let rest = said_from said (with_line piece x) after lines follows may step.behind p.1.2 in
    inr (
      p.0,
      (
        x,
        judged_again piece.version piece (with_piece said piece) line x good (sym behind.version) step.passed,
        subst (λ (s : Said). SaysOn s lines (with_piece said after)) step.same rest,
      ),
    )

head_order : (said : Said) → KeepsOrder said → KeepsOrder (head_of said)
head_order said order =
    record {
      cpus_kept = order.cpus_kept;
      start_kept = order.start_kept;
      floors_after_start = order.floors_after_start;
      floors_kept = order.floors_kept;
      tasks_kept = λ k d h. absurd (omega arith);
      pids_rise = λ i j d lt within. absurd (omega arith);
      one_runs_a_cpu = λ i j d lt within. absurd (omega arith);
      claims_kept = λ k d h. absurd (omega arith);
      lines_rise = λ i j d lt within. absurd (omega arith);
      nices_kept = λ k d h. absurd (omega arith);
      nice_lines_rise = λ i j d lt within. absurd (omega arith);
      idles_kept = λ k d h. absurd (omega arith);
      idles_rise = λ i j d lt within. absurd (omega arith);
      charges_kept = λ k d h. absurd (omega arith);
      charge_lines_rise = λ i j d lt within. absurd (omega arith);
      policies_kept = refl;
      named_kept = λ k d h. absurd (omega arith);
    }

-- nothing of a piece yet
no_piece : (said : Said) → with_piece said (head_of said) ≡ said
no_piece said = rw (append-nil said.claims, append-nil said.nices, append-nil said.charges) refl

-- what a piece says behind the head it says behind what was said, where it follows on
pub piece_said : (said after : Said) (lines : List (List ℕ)) → KeepsOrder said → FollowsOn said after
    → SaysOn (head_of said) lines after → SaysOn said lines (with_piece said after)
piece_said said after lines order follows says =
    let kept = order_on (head_of said) after lines (head_order said order) says in
    let behind : IsBehindHead said (head_of said) =
    record { version = refl; cpus = refl; start = refl; floors = refl } in
    let may : MayAllFollow said after = record {
      claims = all_claims said after.claims kept.lines_rise follows.claims;
      changes = all_changes said after.nices kept.nice_lines_rise follows.changes;
      charges = all_charges said after.charges kept.charge_lines_rise follows.charges;
    } in
    subst (λ (s : Said). SaysOn s lines (with_piece said after)) (no_piece said)
    (said_from said (head_of said) after lines follows may behind says)

-- ---- pieces one after another

-- what was said, and the pieces that are left, with their lines
pub record ArePiecesLeft (first said : Said) (lines : List (List ℕ)) (pieces : List Said) : Type 0 where
  pub order : KeepsOrder said
  pub head : head_of said ≡ head_of first
  pub rest : List (List ℕ)
  pub apart : AreReadApart (head_of first) rest pieces
  pub on : (after : Said) → SaysOn said rest after → SaysOn first lines after

pub none_put : (said : Said) (lines : List (List ℕ)) (pieces : List Said) → KeepsOrder said
    → AreReadApart (head_of said) lines pieces → ArePiecesLeft said said lines pieces
none_put said lines pieces order apart = record {
  order = order;
  head = refl;
  rest = lines;
  apart = apart;
  on = λ after says. says;
}

pub one_less : (first said next piece : Said) (lines : List (List ℕ)) (pieces : List Said) → FollowsOn said piece
    → next ≡ with_piece said piece → ArePiecesLeft first said lines (piece ∷ pieces)
    → ArePiecesLeft first next lines pieces
one_less first said next piece lines pieces follows is left =
    let front = left.apart.0 in
    let rest = left.apart.1 in
    let says = piece_said said piece front left.order follows
    (subst (λ (h : Said). SaysOn h front piece) (sym left.head) left.apart.3) in
    record {
      order = rw is (order_on said (with_piece said piece) front left.order says);
      head = ap head_of is ∙ left.head;
      rest = rest;
      apart = left.apart.4;
      on = λ after later. left.on after (rw left.apart.2
          (said_then said (with_piece said piece) after front rest says
          (subst (λ (s : Said). SaysOn s rest after) is later)));
    }

pub all_put : (first said : Said) (lines : List (List ℕ)) → ArePiecesLeft first said lines [] → SaysOn first lines said
all_put first said lines left = left.on said (said_at_end said left.rest left.apart)

-- pieces that several threads have read
read_apart : {X : Type 0} (head : Said) (lines_in : X → List (List ℕ)) (pieces : List X) (drafts : List Said)
    → AllZip (λ piece later. SaysOn head (lines_in piece) later) pieces drafts
    → AreReadApart head (flat_map lines_in pieces) drafts
read_apart head lines_in [] [] all = refl
read_apart head lines_in [] (later ∷ drafts) all = absurd all
read_apart head lines_in (piece ∷ pieces) [] all = absurd all
read_apart head lines_in (piece ∷ pieces) (later ∷ drafts) all =
    (lines_in piece, flat_map lines_in pieces, refl, all.0, read_apart head lines_in pieces drafts all.1)

pub all_read_apart : {X : Type 0} {Z : Type 0} {E : Type 0} (head : Said) (lines_in : X
    → List (List ℕ)) (lines : List (List ℕ)) (pieces : List X) (drafts : Result (Vec Said Z) E)
    → lines ≡ flat_map lines_in pieces
    → IfOk drafts (λ all. AllZip (λ piece later. SaysOn head (lines_in piece) later) pieces all.items)
    → IfOk drafts (λ all. AreReadApart head lines all.items)
all_read_apart head lines_in lines pieces (Ok all) parts says =
    rw parts (read_apart head lines_in pieces all.items says)
all_read_apart head lines_in lines pieces (Err e) parts says = tt

-- ---- a whole text

pub read_on : (lines : List (List ℕ)) (said : Said) (r : CompanionView) → SaysOn (summed []) lines said
    → IsCompleted said r → IsRead lines r
read_on lines said r says whole =
    let all = good_on [] said lines says in
    record {
      said = all.0;
      good = all.1;
      whole = rw all.2 at whole.whole;
      cpus_is = rw all.2 at whole.cpus_is;
      start_is = rw all.2 at whole.start_is;
      floors_is = rw all.2 at whole.floors_is;
      tasks_is = rw all.2 at whole.tasks_is;
      claims_is = rw all.2 at whole.claims_is;
      nices_is = rw all.2 at whole.nices_is;
      idles_is = rw all.2 at whole.idles_is;
      charges_is = rw all.2 at whole.charges_is;
    }
